pub mod Framing
pub mod Blocks
pub mod Values
pub mod Fillable
pub mod Files
pub mod Ends
