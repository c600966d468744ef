pub mod Signs
pub mod Exact
pub mod Scaled
