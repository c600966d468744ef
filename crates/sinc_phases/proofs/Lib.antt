pub mod CutToTop
pub mod RowsInTable
pub mod PositionInRange
pub mod Blends
pub mod LastRow
