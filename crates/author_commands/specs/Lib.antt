pub mod Authoring
pub mod Plain
pub mod Refusals
pub mod Signing
pub mod Taken
