pub mod Fraction
pub mod Value
