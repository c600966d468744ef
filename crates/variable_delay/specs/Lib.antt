pub mod Reader
pub mod Opening
pub mod Inner
