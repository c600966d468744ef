pub mod Items
pub mod Reader
