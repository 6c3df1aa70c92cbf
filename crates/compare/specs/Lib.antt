pub mod Reach
pub mod Pruned
pub mod Closing
pub mod Kept
pub mod Breaches
pub mod Answers
pub mod Calls
pub mod Law
