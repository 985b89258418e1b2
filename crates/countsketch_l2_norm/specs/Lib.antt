pub mod Estimate
pub mod L2
pub mod Merge
pub mod Norms
pub mod Sketch
pub mod inner
