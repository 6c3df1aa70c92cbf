pub mod Putting
pub mod Lines
pub mod Refused
pub mod Lengths
