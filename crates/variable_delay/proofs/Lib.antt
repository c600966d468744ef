pub mod Settings
pub mod AcceptedCall
pub mod Refused
pub mod Resets
pub mod AnyWidth
pub mod Calls
