pub mod Choices
pub mod Clamps
