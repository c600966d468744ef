pub mod Factors
pub mod Tests
pub mod Accepted
