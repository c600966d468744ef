pub mod Report
pub mod Refusals
pub mod Runs
pub mod Tallies
pub mod Blocks
