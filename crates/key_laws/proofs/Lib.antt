pub mod Lacking
pub mod Reached
pub mod Tainting
