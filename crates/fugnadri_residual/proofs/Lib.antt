pub mod OddPlaced
