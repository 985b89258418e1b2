pub mod Arrivals
pub mod Refusing
pub mod Told
