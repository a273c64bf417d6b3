pub mod Joined
pub mod Opened
pub mod Shown
