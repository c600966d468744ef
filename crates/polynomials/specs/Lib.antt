pub mod Taylor
pub mod Horner
pub mod Range
