pub mod Spots
pub mod Known
pub mod Walks
pub mod Readings
pub mod RowWalk
pub mod KeyWalk
