pub mod Bits
pub mod Orders
pub mod Picks
pub mod Left
pub mod Unmet
