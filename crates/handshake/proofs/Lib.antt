mod Accepted
mod Ending
mod Spelled
mod Taking
mod Texts
