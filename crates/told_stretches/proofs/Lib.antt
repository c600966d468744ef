pub mod WithAbsent
