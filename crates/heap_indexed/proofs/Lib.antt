pub mod Paths
pub mod Same
pub mod Steps
pub mod Runs
pub mod Sizes
