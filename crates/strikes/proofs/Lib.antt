mod Deciders
mod Larger
mod Noting
mod PlaceOrder
mod RemovalRanks
mod Removals
