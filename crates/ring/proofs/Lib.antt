pub mod Masks
pub mod Lengths
pub mod RunStartWays
pub mod HeldRuns
pub mod OneTap
pub mod Positions
