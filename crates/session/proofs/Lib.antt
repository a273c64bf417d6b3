pub mod Stepping
pub mod Running
pub mod Among
pub mod Judged
pub mod Histories
pub mod Strings
pub mod Records
pub mod KeptBranches
