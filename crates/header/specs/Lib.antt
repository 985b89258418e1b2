pub mod Answers
pub mod Header
pub mod Lending
pub mod OneTier
pub mod Shape
pub mod Totals
pub mod inner
