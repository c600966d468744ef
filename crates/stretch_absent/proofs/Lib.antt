pub mod Added
pub mod Wholes
