pub mod ActText
pub mod Admin
pub mod Fields
pub mod ProofText
