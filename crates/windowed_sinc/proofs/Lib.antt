pub mod Refused
pub mod Elements
pub mod Building
