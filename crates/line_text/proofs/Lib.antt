pub mod Rows
pub mod Thousandths
pub mod Examples
