pub mod Distance
pub mod WriteTests
pub mod Rows
pub mod WrittenRows
pub mod Argument
