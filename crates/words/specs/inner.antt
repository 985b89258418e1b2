-- Definitions that only contracts of inner functions, and laws, cite. No public contract and no theorem stands on them.
pub mod Raised
pub mod Fours
