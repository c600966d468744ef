pub mod Absent
pub mod Inner
