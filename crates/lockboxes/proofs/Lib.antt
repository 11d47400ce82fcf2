pub mod Contents
pub mod Entitled
pub mod InOrder
pub mod Opens
pub mod PlacesKept
