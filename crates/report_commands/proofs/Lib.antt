pub mod OfHeld
pub mod OpenedKeys
pub mod Unheld
