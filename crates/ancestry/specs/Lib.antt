pub mod Examples
pub mod Positions
pub mod Renaming
pub mod Rows
