pub mod Entries
pub mod Layers
pub mod Terminal
pub mod Terms
pub mod inner
