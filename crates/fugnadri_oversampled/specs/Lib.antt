pub mod Designs
