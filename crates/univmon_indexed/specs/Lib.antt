pub mod Calls
pub mod Updates
pub mod inner
