pub mod Kinds
pub mod Digits
pub mod Chains
pub mod Ots
pub mod Rows
