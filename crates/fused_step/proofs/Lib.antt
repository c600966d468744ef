pub mod Compared
pub mod HalfUnitAdded
pub mod QuickPattern
pub mod Steps
