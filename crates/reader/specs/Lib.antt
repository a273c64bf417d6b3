pub mod Views
pub mod Plain
