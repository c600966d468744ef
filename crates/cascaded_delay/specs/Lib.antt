pub mod Halves
pub mod Reader
pub mod Opening
