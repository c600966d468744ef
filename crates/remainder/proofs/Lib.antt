pub mod Division
pub mod Remainders
pub mod AlreadyBelow
pub mod BelowTwice
pub mod TestCases
pub mod DigitsOfPattern
pub mod Exact
