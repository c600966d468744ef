pub mod Marks
pub mod Slots
pub mod Asking
pub mod Search
