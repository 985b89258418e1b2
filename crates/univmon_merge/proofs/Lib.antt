pub mod Pairing
pub mod Pairings
pub mod MergeCalls
pub mod Told
