pub mod Answers
pub mod Lending
pub mod Outcomes
pub mod Records
pub mod Slices
pub mod State
pub mod inner
