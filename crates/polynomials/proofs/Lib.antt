pub mod Nested
pub mod Horner
pub mod Squares
pub mod CosineNear
pub mod SineNear
