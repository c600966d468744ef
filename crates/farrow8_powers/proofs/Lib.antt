pub mod Basis
pub mod Zeros
pub mod Centre
