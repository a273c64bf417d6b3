pub mod Comparing
pub mod Picking
pub mod Meeting
pub mod Cases
