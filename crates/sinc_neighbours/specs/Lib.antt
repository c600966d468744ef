pub mod Apart
pub mod Straight
