-- G3. A plain slice is a ring of its own length whose count is its length: every element is read at its place, and zero
-- before the start and past the end. K1. Up to 2^36 the number of a sample is exact as a float, so that a position is
-- rounded once. Assumes nothing.
use mathlib.Core.Path.{◌≡◌, refl}
use mathlib.Core.Bool.{false}
use mathlib.Core.List.{List}
use Prim.Native.Nat.{ℕ, ◌+◌, ◌^◌, ◌≤◌, ◌<◌}
use native.Mathlib.Nat.{mod-eq_of_lt, le_trans}
use native.Mathlib.Omega.{arith}
use borrow.Author.Tests.{lt-ltb, le-ltb, le-leb}
use lib.Dec.{lit≤}
use lib.IntN.{pos, negsuc}
use lib.ListN.{length, get_or}
use lib.Ieee.{Float, nan, fin, binary64, of_int}
use lib.Ieee.Exact.{HasValue}
use Rattle.magnitude.proofs.WholeFloats.{whole-value}
use Rattle.ring.specs.Taps.{tap_of}

module _ (xs : List Float) (k : ℕ) where
  pub before-start : tap_of xs (length xs) (negsuc k) ≡ fin false 0 (pos 0)
  before-start = refl

  pub inside : k < length xs → tap_of xs (length xs) (pos k) ≡ get_or xs k nan
  inside h = rw (lt-ltb k (length xs) h, le-leb (length xs) (k + length xs) (omega arith), mod-eq_of_lt h)

  pub past_end : length xs ≤ k → tap_of xs (length xs) (pos k) ≡ fin false 0 (pos 0)
  past_end h = rw (le-ltb k (length xs) h)

-- K1. The number of a sample is exact.
pub number-exact : (i : ℕ) → i ≤ 2 ^ 36 → HasValue (of_int binary64 (pos i)) false i 1
number-exact i h = whole-value binary64 (pos i) (le_trans h (lit≤ tt))
