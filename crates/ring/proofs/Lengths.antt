-- G1. A ring's length is the least power of two that is at least the need, and it is at most 2 ^ 24 exactly if the need
-- is. With 01's three examples. Assumes nothing.
use mathlib.Core.Path.{◌≡◌, refl}
use mathlib.Core.Logic.{◌↔◌}
use Prim.Native.Nat.{ℕ, ◌-◌, ◌%◌, ◌^◌, ◌≤◌, ◌<◌}
use native.Mathlib.Nat.{le_trans}
use native.Mathlib.Omega.{arith}
use lib.Pow.{pow_mono, pow_pos}
use lib.Bits.{bit_and, and_mask}
use lib.Ieee.{size}
use lib.Ieee.Digits.{size-lt, size-le}
use Rattle.ring.specs.Length.{need, length_for}

module _ (maximum margin : ℕ) where
  pub some : 0 < length_for maximum margin
  unfolding length_for
  some = pow_pos (size (need maximum margin - 1))

  pub enough : need maximum margin ≤ length_for maximum margin
  unfolding length_for
  enough = omega (arith, size-lt (need maximum margin - 1))

  pub least : (k : ℕ) → need maximum margin ≤ 2 ^ k → length_for maximum margin ≤ 2 ^ k
  unfolding length_for
  least k h = pow_mono (size-le (need maximum margin - 1) k (omega arith))

  pub at_most : need maximum margin ≤ 2 ^ 24 ↔ length_for maximum margin ≤ 2 ^ 24
  at_most = (least 24, le_trans enough)

  -- So a mask by the length less 1 is the remainder.
  pub masked : (k : ℕ) → bit_and k (length_for maximum margin - 1) ≡ k % length_for maximum margin
  unfolding length_for
  masked k = and_mask k (size (need maximum margin - 1))

none : length_for 0 0 ≡ 8
unfolding length_for size
none = refl

last-of-1024 : length_for 1016 0 ≡ 1024
unfolding length_for size
last-of-1024 = refl

first-of-2048 : length_for 1017 0 ≡ 2048
unfolding length_for size
first-of-2048 = refl
