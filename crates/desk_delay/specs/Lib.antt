pub mod Desk
pub mod Inner
