pub mod Determined
pub mod Calls
