pub mod Digits
pub mod Tenths
pub mod ReadBack
pub mod Powers
pub mod Points
pub mod Examples
