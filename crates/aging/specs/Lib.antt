pub mod Damage
pub mod Calls
pub mod Sharp
pub mod Qualities
