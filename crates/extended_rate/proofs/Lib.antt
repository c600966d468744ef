pub mod Rates
pub mod Ends
