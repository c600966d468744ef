pub mod Parts
pub mod Range
pub mod Inner
