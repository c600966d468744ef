pub mod Turns
pub mod AsWave
