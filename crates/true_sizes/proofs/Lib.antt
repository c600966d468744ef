pub mod Names
pub mod Table
pub mod Same
pub mod Lent
