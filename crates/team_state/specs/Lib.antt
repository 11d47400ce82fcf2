pub mod ArrowLaws
pub mod AscentLaws
pub mod Kept
pub mod Rows
