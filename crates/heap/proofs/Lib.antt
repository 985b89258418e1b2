pub mod Matches
pub mod Places
pub mod Steps
pub mod Cases
pub mod Sounds
pub mod Effects
pub mod Entries
