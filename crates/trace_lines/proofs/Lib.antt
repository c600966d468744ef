pub mod Blocks
pub mod Example
pub mod NothingCutOff
