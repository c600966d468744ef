pub mod Generator
pub mod Worked
