pub mod Samples
pub mod Filling
pub mod Frames
