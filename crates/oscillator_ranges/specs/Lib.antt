pub mod Constants
pub mod Ranges
