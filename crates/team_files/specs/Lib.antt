pub mod Bundles
pub mod FileLaws
pub mod Frames
pub mod LineFronts
pub mod Parts
pub mod Pieces
