pub mod Calls
pub mod Told
pub mod Updates
pub mod inner
