pub mod Drawn
pub mod Hollow
pub mod Lists
