pub mod Differing
pub mod Opened
