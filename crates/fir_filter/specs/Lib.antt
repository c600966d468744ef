pub mod Filters
pub mod Runs
pub mod Pairs
