pub mod Answers
pub mod Ask
pub mod Line
pub mod Split
pub mod inner
