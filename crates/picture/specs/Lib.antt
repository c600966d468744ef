pub mod Names
pub mod Bars
pub mod Page
pub mod Panel
