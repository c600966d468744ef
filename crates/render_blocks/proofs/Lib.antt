pub mod Turns
pub mod TwoBlocks
