pub mod InRange
pub mod Ends
