pub mod Image
pub mod Loading
pub mod Stored
pub mod Held
pub mod Checks
pub mod Theorems
pub mod Rows
