pub mod ChainParts
pub mod FourBiasedTurns
pub mod Finite
pub mod FourTurnsByPatterns
