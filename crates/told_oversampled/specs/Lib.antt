pub mod Inside
pub mod Direct
pub mod Cascaded
pub mod Reckoned
