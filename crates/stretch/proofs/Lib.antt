pub mod Going
pub mod Turns
pub mod Laws
pub mod Sums
pub mod WholeLaws
pub mod Cuts
