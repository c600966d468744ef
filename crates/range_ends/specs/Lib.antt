pub mod Floats
pub mod Readers
pub mod Wander
pub mod Files
pub mod Sounds
pub mod Reports
