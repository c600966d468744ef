pub mod Samples
pub mod Inner
