pub mod Cuts
pub mod PageLaws
pub mod Alike
pub mod Built
pub mod Restored
pub mod Bounds
pub mod Writings
