pub mod Tests
pub mod Steps
pub mod Firsts
pub mod Gathers
pub mod Merges
pub mod Answers
