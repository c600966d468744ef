pub mod Planned
pub mod Sizes
pub mod Pieces
pub mod Whole
pub mod Taken
pub mod Long
pub mod Order
pub mod Ends
