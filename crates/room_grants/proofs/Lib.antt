pub mod Answering
pub mod Granting
pub mod Ends
