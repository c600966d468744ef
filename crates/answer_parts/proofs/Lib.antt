pub mod LeftByExports
