pub mod Giving
pub mod Merged
pub mod ResultsText
pub mod UnionLaws
