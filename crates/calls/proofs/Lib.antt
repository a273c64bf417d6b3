pub mod Fields
pub mod ReadsCalls
