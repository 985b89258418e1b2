pub mod Letters
pub mod Words
pub mod Decimals
pub mod Signs
pub mod Hex
