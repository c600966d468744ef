pub mod Storing
pub mod Parts
pub mod Inner
