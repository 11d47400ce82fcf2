pub mod FileLines
pub mod TokenText
pub mod ProofFile
pub mod Making
pub mod Parts
