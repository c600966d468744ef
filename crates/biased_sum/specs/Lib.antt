pub mod Biased
pub mod Sums
pub mod Beginning
