mod Counts
mod Heights
mod Marks
pub mod Nodes
pub mod Pasts
pub mod Renamed
mod Rows
mod Searched
