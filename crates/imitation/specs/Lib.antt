pub mod Reading
pub mod Delays
