pub mod Ranges
pub mod Drawing
pub mod Drift
