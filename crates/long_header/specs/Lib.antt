pub mod LongHeader
pub mod Refusals
pub mod Parts
