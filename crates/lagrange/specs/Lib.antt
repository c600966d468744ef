pub mod Kernel
pub mod Eights
