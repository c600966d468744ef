pub mod NothingRefused
pub mod Sections
pub mod Lengths
pub mod SetCount
pub mod Refused
