pub mod Rooms
pub mod Fronts
pub mod Weights
pub mod Replies
pub mod Runs
pub mod Figures
