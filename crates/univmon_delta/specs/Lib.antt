pub mod Deltas
pub mod Told
pub mod inner
