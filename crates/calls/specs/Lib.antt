pub mod Limits
pub mod Calls
pub mod Reading
pub mod Views
pub mod Filling
