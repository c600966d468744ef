pub mod Sums
pub mod Reading
