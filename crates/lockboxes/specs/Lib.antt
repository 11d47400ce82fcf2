pub mod Boxes
pub mod Digests
pub mod Indexes
pub mod Keeping
pub mod KeepingLaws
pub mod Opening
pub mod Symbolic
pub mod SymbolicLaws
