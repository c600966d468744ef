pub mod AtHand
pub mod Verdicts
