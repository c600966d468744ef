pub mod Length
pub mod Taps
pub mod Places
pub mod Quick
