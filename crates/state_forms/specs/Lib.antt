pub mod Formats
pub mod Sparse
pub mod Grammar
pub mod Whole
pub mod inner
