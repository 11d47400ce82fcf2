pub mod Givings
pub mod MergedFiles
pub mod OneResult
pub mod RefusedLines
pub mod TextResults
pub mod Unions
