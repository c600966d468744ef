pub mod Stretch
pub mod Whole
pub mod Counts
pub mod Singles
