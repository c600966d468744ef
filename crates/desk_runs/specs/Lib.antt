pub mod Events
pub mod Alone
