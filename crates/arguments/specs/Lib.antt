pub mod Names
pub mod Meaning
pub mod Settings
