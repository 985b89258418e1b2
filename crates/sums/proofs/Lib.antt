pub mod Views
pub mod Whole
pub mod Keys
pub mod Cardinality
pub mod Order
pub mod Steps
pub mod Figures
