pub mod KnownKeys
pub mod Leaving
pub mod Make
pub mod MakeLaws
pub mod Newkey
