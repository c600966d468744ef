pub mod Stored
pub mod Nearest
