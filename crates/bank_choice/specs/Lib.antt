pub mod Rates
pub mod Choosing
pub mod Inner
