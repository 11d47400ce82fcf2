pub mod Causes
pub mod Contents
pub mod Sure
pub mod Table
