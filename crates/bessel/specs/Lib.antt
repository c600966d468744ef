pub mod Series
pub mod Modes
