pub mod Names
pub mod Either
pub mod Inside
