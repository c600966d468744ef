pub mod ByEquations
pub mod Readers
pub mod Openings
pub mod Builders
