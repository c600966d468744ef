pub mod State
pub mod Reader
pub mod Bank
pub mod Chosen
pub mod Opening
