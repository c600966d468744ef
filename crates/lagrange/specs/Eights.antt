-- Eight nodes side by side, and what the code knows of them while it multiplies the factors of their weights. It is no
-- part of what the kernel promises. Definitions only.
use Rattle.std.specs.Prelude.{◌≡◌, List, ℕ, ◌+◌, ◌<◌, ◌≤◌, length, get_or, ℤ, pos, ◌+ℤ◌, Float}
use Rattle.std.specs.Float.{nan, binary64}
use Rattle.std.specs.Float.Ieee.{add, mul}
use Rattle.ring.specs.Taps.{tap_of}
use Rattle.lagrange.specs.Kernel.{num, weight_of}

-- The list own has the nodes from `first` on, as floats.
pub record Nodes (first : ℕ) (own : List Float) : Type 0 where
  pub node : (k : ℕ) → k < 8 → get_or own k nan ≡ num (first + k)

-- The list w has their weights after the factors of the nodes below n.
pub record Weights (local : Float) (first n : ℕ) (w : List Float) : Type 0 where
  pub weight : (k : ℕ) → k < 8 → get_or w k nan ≡ weight_of n local (first + k)

-- In 000: `sum += source.at(base + k) * weight`, where x k is the sample of tap k.
abbrev pub tap_turn : (ℕ → Float) → List Float → ℕ → Float → Float
tap_turn x w k sum = add binary64 sum (mul binary64 (x k) (get_or w k nan))

-- All taps stand side by side, and the first of them at `place`.
pub record SideBySide (xs : List Float) (count : ℕ) (base : ℤ) (taps place : ℕ) : Type 0 where
  pub fits : place + taps ≤ length xs
  pub tap : (k : ℕ) → k < taps → get_or xs (place + k) nan ≡ tap_of xs count (base +ℤ pos k)
