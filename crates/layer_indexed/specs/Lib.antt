pub mod Adding
pub mod Merging
pub mod inner
