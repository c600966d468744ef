pub mod Xorshift
pub mod Seeds
pub mod Draws
