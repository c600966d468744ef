pub mod Found
pub mod Rising
