pub mod Takes
pub mod Offerings
pub mod Merges
