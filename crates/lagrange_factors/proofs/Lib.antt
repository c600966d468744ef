pub mod Turns
pub mod Nodes
