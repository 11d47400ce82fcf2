pub mod Drafts
pub mod Faults
pub mod KeyRanges
pub mod LinkText
pub mod Takes
pub mod TeamFile
pub mod TeamReading
