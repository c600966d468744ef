pub mod Format
pub mod Tags
