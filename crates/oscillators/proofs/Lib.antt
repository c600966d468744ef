pub mod Squares
pub mod Worked
