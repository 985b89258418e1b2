pub mod Check
pub mod Reached
