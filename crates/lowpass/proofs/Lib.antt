pub mod Distance
pub mod Designs
