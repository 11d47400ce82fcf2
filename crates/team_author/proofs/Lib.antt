pub mod Drafts
pub mod Heads
pub mod Plans
pub mod Rooms
pub mod Sizes
