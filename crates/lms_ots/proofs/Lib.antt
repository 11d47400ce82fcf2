pub mod Buffers
pub mod Steps
pub mod Widths
pub mod Pieces
pub mod Signed
