pub mod Coefficient
pub mod Row
