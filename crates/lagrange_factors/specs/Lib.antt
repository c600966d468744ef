pub mod Weight
pub mod Formula
pub mod Lanes
