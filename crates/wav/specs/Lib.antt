pub mod Wave
pub mod Accepted
