pub mod Names
pub mod Passed
pub mod InHand
pub mod Once
pub mod Promised
pub mod Behind
