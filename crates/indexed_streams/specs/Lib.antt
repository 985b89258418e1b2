pub mod Runs
pub mod IndexedRuns
pub mod IndexedShared
