pub mod Halves
pub mod Digitwise
pub mod XorShifts
