pub mod Moves
pub mod Offers
pub mod inner
