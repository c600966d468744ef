pub mod WholeSets
pub mod QualityTables
pub mod BankReading
pub mod AtMaximum
pub mod OneTable
