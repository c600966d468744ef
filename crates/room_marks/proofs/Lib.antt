pub mod MarkNumbers
pub mod Searching
