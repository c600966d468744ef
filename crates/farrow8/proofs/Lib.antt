pub mod Horner
pub mod BothWays
