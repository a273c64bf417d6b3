pub mod Cuts
pub mod Digits
pub mod Hex
pub mod Spelling
pub mod Writes
pub mod Inverses
