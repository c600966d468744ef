pub mod Served
pub mod Told
