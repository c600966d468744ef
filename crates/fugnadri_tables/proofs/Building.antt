-- What a builder leaves, over its answer, so that the proof of each of the four exports is one line. Assumes nothing.
use mathlib.Core.Path.{◌≡◌}
use mathlib.Core.List.{List}
use Prim.Native.Nat.{ℕ}
use lib.Ieee.{Float}
use Rattle.fugnadri_tables.specs.Building.{makes}

pub made : {B : Type 0} (number : B → ℕ) {b q : B} {n : ℕ} {xs ys : List Float}
    → (b ≡ q) × (xs ≡ ys) → n ≡ number b → makes n xs ≡ makes (number q) ys
made number e n = rw (n, e.0, e.1)
