pub mod Keys
pub mod Teams
