pub mod SettingsInRange
pub mod RefusalParts
pub mod BuilderAccepted
