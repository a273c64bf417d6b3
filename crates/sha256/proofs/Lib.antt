mod Sums
mod Bitwise
mod Lanes
mod Steps
mod Growth
mod Window
mod Words
mod Padded
