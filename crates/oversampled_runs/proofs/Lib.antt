pub mod Inner
pub mod Inside
pub mod Counted
pub mod InsideCascade
pub mod CountedCascade
