pub mod Table
pub mod Basis
pub mod Sums
