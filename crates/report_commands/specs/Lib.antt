pub mod Heads
pub mod Keys
pub mod Log
pub mod Show
pub mod Why
