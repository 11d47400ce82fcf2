pub mod Powers
pub mod Filled
pub mod Climbs
pub mod Conditions
pub mod Joined
pub mod Verified
