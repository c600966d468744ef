pub mod Fade
pub mod Step
pub mod Runs
