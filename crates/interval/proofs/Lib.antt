pub mod Signed
pub mod Rounded
pub mod Operations
pub mod MonotoneOperations
pub mod Between
pub mod Products
pub mod Pieces
