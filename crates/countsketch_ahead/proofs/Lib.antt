pub mod Ahead
pub mod Told
