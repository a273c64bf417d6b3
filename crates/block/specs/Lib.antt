pub mod Layout
pub mod Views
pub mod Meaning
pub mod Entries
pub mod Numbers
pub mod Parts
pub mod Ranges
