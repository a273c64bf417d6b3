pub mod Opened
pub mod Views
