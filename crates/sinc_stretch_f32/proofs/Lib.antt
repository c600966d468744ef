pub mod Alike
pub mod TableTests
pub mod Turns
pub mod TwoItems
pub mod TwoTurns
