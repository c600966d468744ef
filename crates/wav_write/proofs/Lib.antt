pub mod Planned
pub mod Around
pub mod Verdicts
pub mod Laid
pub mod Calls
pub mod Order
pub mod Ends
