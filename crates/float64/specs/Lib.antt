-- What the contracts of `float64` cite.
pub mod Values
pub mod Norm
pub mod Root
pub mod RootCount
pub mod Cut
