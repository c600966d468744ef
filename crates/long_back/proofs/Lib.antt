pub mod Places
pub mod Walk
pub mod Read
pub mod Back
pub mod Same
