pub mod Grades
pub mod Arrivals
pub mod Refusing
