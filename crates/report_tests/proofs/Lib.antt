pub mod BothTests
pub mod Values
pub mod WideSums
pub mod Numbers
