pub mod Stretches
pub mod Desks
pub mod Oversampled
