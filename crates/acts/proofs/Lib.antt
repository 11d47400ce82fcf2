pub mod ActLaws
pub mod ActWords
pub mod Appends
pub mod Bodies
pub mod Forms
pub mod Pairs
