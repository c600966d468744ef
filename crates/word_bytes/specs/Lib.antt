pub mod Hex
pub mod Bytes
