pub mod Greetings
pub mod Histories
pub mod Messages
