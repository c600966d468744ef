pub mod Ranges
pub mod EightLanes
pub mod Blocks
