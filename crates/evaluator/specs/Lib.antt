pub mod Rows
pub mod Breaches
pub mod Evaluated
pub mod Marks
