pub mod Calls
pub mod Filled
pub mod Counted
pub mod Refused
pub mod Opened
