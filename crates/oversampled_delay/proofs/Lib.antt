pub mod InnerLength
pub mod Tests
pub mod Steps
pub mod Inner
pub mod OneCall
pub mod Renewal
