pub mod Names
pub mod Passed
pub mod InHand
pub mod Promised
pub mod Answers
pub mod Alike
pub mod Behind
pub mod Wrapped
