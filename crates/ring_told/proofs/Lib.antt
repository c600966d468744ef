pub mod FourCases
pub mod Values
