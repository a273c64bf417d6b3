pub mod Lanes
pub mod Keccak
pub mod Sha3
pub mod Digests
