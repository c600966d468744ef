pub mod OneCall
pub mod OneTurn
pub mod AsAlone
pub mod Grants
