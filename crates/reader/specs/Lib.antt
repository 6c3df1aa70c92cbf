pub mod Tokens
pub mod Grammar
pub mod Table
pub mod Breaches
pub mod Phrases
pub mod Reading
