pub mod Delta
pub mod Layer
pub mod Merge
pub mod inner
