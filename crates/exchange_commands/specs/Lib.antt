pub mod Meet
pub mod Merge
