pub mod Seats
pub mod Grading
pub mod Steps
pub mod Agreeing
