pub mod Limits
pub mod Plans
pub mod Views
pub mod Overlays
