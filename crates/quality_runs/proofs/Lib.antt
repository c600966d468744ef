pub mod Calls
pub mod Fading
pub mod Counted
pub mod StaysInRange
