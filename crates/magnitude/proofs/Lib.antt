pub mod Comparisons
pub mod OrderAndBounds
pub mod Rounded
pub mod Operations
pub mod WholeFloats
pub mod Finite
