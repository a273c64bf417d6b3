pub mod Cut
pub mod Numbers
pub mod Pairs
pub mod Writing
