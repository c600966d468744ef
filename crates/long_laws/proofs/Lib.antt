pub mod Openings
pub mod Missing
pub mod Whole
pub mod Longer
pub mod Behind
pub mod AsBefore
pub mod Order
pub mod Ends
