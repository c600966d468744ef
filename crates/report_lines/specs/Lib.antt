pub mod Files
pub mod Times
pub mod Looked
pub mod Lines
