pub mod Walking
pub mod ByTurns
