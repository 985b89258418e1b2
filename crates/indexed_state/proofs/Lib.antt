pub mod Parted
pub mod Built
pub mod Passing
pub mod Looks
