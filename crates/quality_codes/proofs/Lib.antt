pub mod NamedQualities
pub mod DraftCalls
pub mod SetsByTwoTests
