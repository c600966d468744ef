pub mod Rules
pub mod Step
pub mod Runs
pub mod Inner
