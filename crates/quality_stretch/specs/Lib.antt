pub mod Reader
pub mod Inner
