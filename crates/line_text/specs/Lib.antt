pub mod Columns
pub mod Time
