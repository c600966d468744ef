pub mod Cutting
pub mod Told
pub mod Worked
mod Steps
