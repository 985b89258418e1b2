pub mod Handed
pub mod Turns
pub mod Fitting
