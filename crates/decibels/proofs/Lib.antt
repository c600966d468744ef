pub mod Factors
pub mod Greatest
pub mod Meaning
pub mod SmallestLevel
pub mod Reports
pub mod WorkedLevels
