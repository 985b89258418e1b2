pub mod Turning
pub mod Shapes
pub mod SameCalls
