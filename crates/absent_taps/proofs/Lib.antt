pub mod AtOnce
pub mod Starts
pub mod Laws
pub mod Worked
