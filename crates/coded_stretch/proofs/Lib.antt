pub mod NamedOrNot
