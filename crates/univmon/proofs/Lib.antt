pub mod Judging
pub mod Sending
pub mod Sends
pub mod Updating
pub mod Touched
pub mod Told
