pub mod Extensions
pub mod Joins
pub mod ReadsFields
pub mod ReadsLines
pub mod ReadsWords
pub mod Words
