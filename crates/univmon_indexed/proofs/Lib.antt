pub mod Grades
pub mod Judging
pub mod Sends
pub mod Sending
pub mod Updating
