pub mod Escapes
pub mod Edges
pub mod Laws
pub mod Examples
pub mod Room
