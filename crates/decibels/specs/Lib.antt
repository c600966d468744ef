pub mod Decibels
pub mod Counting
