pub mod Reads
pub mod Opening
pub mod Inside
