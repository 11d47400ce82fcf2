mod Pairs
mod Places
mod Ranks
pub mod Seniors
