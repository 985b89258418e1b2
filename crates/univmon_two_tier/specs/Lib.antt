pub mod Crossing
pub mod Lending
pub mod SameCalls
