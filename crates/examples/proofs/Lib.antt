pub mod Tests
pub mod Marks
pub mod Right
pub mod Texts
pub mod Lines
pub mod Places
pub mod Outcomes
