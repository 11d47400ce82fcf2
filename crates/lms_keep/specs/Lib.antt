pub mod KeyText
pub mod Making
pub mod Signing
