pub mod Numbers
pub mod Checks
pub mod Faults
pub mod Hashing
pub mod States
pub mod Views
