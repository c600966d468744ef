pub mod Runs
pub mod Cascades
