pub mod Along
pub mod Homs
pub mod Complete
pub mod Meanings
pub mod Sound
