pub mod Offer
pub mod Places
pub mod inner
