mod Authored
mod PlainActs
mod Signed
mod Signings
pub mod Sound
pub mod Taken
