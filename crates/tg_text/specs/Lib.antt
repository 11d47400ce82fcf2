pub mod KeySpelling
pub mod Limits
pub mod LineFields
pub mod Order
pub mod Padded
pub mod Reading
pub mod Spelling
