pub mod Drafting
pub mod Planning
