pub mod Chains
pub mod AbsentTaps
pub mod BothWays
