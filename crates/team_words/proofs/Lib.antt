mod GivenActs
mod LinkNames
pub mod OneCommand
mod Titles
mod WordCounts
