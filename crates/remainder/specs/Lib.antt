pub mod Euclid
pub mod Digits
