pub mod Lowest
pub mod Unchanged
pub mod Edges
pub mod Slices
