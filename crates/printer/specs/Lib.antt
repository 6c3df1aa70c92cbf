pub mod Spelling
pub mod Writing
pub mod Printed
pub mod Theorems
