pub mod Backs
pub mod Closes
