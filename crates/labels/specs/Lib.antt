pub mod Kinds
pub mod Bands
pub mod Words
