pub mod Kernels
pub mod Qualities
pub mod Mixing
