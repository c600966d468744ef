pub mod Operations
pub mod Nearest
