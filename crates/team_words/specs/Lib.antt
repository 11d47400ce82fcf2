pub mod Acts
pub mod Words
