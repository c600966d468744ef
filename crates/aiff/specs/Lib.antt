pub mod Aiff
pub mod Accepted
