pub mod Calls
pub mod Pages
pub mod Restored
