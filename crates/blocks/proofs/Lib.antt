pub mod Absorbed
pub mod Chunks
pub mod Written
