pub mod Exact
pub mod Desk
pub mod Demand
pub mod Readers
