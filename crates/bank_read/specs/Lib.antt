pub mod Bank
pub mod Inner
pub mod OneTable
