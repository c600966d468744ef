pub mod Reduction
pub mod Answers
pub mod Close
pub mod Steps
