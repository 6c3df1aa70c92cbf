pub mod Operators
pub mod Numerals
pub mod Lexing
pub mod Sentences
pub mod Writings
pub mod Parts
pub mod Arms
pub mod Reading
