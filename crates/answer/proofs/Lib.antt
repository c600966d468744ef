pub mod Cases
pub mod Passed
