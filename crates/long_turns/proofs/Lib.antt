pub mod ByTurns
