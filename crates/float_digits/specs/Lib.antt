pub mod Pattern
pub mod Jam
