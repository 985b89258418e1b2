pub mod Merges
pub mod Told
pub mod inner
