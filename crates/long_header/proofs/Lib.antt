pub mod Bounds
pub mod Letters
pub mod Placed
pub mod Assembled
pub mod Accepted
pub mod Order
pub mod Ends
