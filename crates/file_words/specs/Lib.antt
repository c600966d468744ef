pub mod Lines
pub mod Unopened
