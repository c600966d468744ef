pub mod Quality
pub mod Names
