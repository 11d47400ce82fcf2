pub mod Counted
pub mod Explains
pub mod KeysOnce
pub mod LineSteps
pub mod Places
pub mod SameTexts
pub mod Waits
pub mod Writing
