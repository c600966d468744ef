pub mod Header
pub mod Refusals
pub mod Fields
