pub mod Building
pub mod Exports
