pub mod Signs
pub mod FourTaps
pub mod BothWays
