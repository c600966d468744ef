pub mod Narrowed
pub mod Patterns
pub mod Subnormal
pub mod SignBit
