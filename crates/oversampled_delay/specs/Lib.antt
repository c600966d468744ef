pub mod Phases
pub mod Reader
pub mod Opening
pub mod Upsampled
pub mod Inside
