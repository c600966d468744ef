pub mod Sets
pub mod Building
pub mod Parts
