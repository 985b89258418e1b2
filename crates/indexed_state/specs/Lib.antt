pub mod Building
pub mod Check
pub mod Lookups
pub mod inner
