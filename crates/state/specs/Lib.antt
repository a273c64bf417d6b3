pub mod Entries
pub mod Changes
pub mod Views
pub mod Lawful
