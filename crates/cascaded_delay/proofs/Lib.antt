pub mod Tests
pub mod Steps
pub mod OneCall
pub mod Renewal
