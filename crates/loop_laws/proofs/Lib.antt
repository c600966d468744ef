pub mod Folds
pub mod Lists
pub mod Writing
pub mod Mapped
pub mod Rows
pub mod Filling
pub mod Scratch
