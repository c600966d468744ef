pub mod Tests
pub mod Items
pub mod Loops
pub mod Ends
