pub mod Replacing
pub mod Judging
