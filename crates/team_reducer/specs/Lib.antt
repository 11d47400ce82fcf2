pub mod ActLaws
pub mod News
pub mod Prints
pub mod Sound
