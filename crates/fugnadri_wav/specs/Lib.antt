pub mod Exports
pub mod Walk
