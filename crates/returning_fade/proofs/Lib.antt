pub mod PortedRule
pub mod PortedSteps
pub mod States
pub mod OneCall
pub mod StaysInRange
pub mod NoJump
pub mod Settles
