-- `decibels::range::at_most_largest` meets its contract: both sides are below 2^128, so four limbs hold them. Assumes
-- nothing.
use mathlib.Core.Path.{◌∙◌}
use Prim.Native.Nat.{ℕ, ◌+◌, ◌*◌, ◌^◌, ◌<◌}
use native.Mathlib.Nat.{one-mul, mul-le-mul_right, le_of_lt, lt_of_le_of_lt}
use lib.Arith.{digits_lt}
use lib.Dec.{lit≤}
use Rattle.big_numbers.proofs.Rows.{onward, value-back}
use Rattle.decibels.specs.Decibels.{largest}
use Rattle.decibels.proofs.range.at_most_largest.Goals as goal

below : (h l : ℕ) → h < 2 ^ 64 → l < 2 ^ 64 → h * 2 ^ 64 + l < (2 ^ 32) ^ 4
below h l p q = digits_lt p q

largest-below : (n : ℕ) → n < 2 ^ 64 → largest n < (2 ^ 32) ^ 4
largest-below n p = lt_of_le_of_lt (mul-le-mul_right 281474943156225 (le_of_lt p)) (lit≤ tt)

pub returns : goal.returns
returns c =
    let f = c.ranges in
    let a = onward 4 _ _ c.store.ensures c.multiply.ensures in
    let b = onward 4 _ _ c.store-2.ensures c.multiply-2.ensures in
    c.at_most.ensures
    ∙ rw (a, b, one-mul)
    (rw (value-back 4 _ (below _ _ f.high.fits f.low.fits), value-back 4 _ (largest-below _ f.number.fits)))
