pub mod LmsKinds
pub mod Nodes
pub mod Signatures
pub mod Verifying
pub mod Making
pub mod Rows
pub mod Laws
