pub mod Fields
pub mod Formats
pub mod Places
pub mod Walk
pub mod Read
pub mod Written
pub mod Stored
pub mod Again
