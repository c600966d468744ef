pub mod Worked
pub mod Ending
