-- How large an integer is. `mag` is at most the magnitude, and that of a sum is little more than the two together, so
-- that a sum stays in the range of an `i64`. Assumes nothing.
use Rattle.std.proofs.Common.{◌≡◌, ℕ, zero, suc, ◌+◌, ◌-◌, ◌^◌, ◌<◌, ◌≤◌, Bool, true, false, cond, ltb, ℤ, pos, negsuc}
use Rattle.std.proofs.Common.{◌+ℤ◌, neg_ℤ, nat_abs, refl, le_trans, le_refl, lt_of_le_of_lt, arith, w64, SFits}
use native.Mathlib.Nat.{le-suc}
use lib.IntN.{sub_ℕ}
use lib.Signed.{mag}

pub nat_abs-neg : (n : ℕ) → nat_abs (neg_ℤ (pos n)) ≡ n
nat_abs-neg zero = refl
nat_abs-neg (suc n) = refl

pub mag-le : (z : ℤ) → mag z ≤ nat_abs z
mag-le (pos n) = le_refl n
mag-le (negsuc n) = le-suc n

mag-difference : (a b : ℕ) → mag (sub_ℕ a b) ≤ a + b
mag-difference a b = go (ltb a b)
  where
    go : (t : Bool) → mag (cond t (negsuc (b - suc a)) (pos (a - b))) ≤ a + b
    go true = omega arith
    go false = omega arith

pub mag_sum : (z w : ℤ) → mag (z +ℤ w) ≤ mag z + mag w + 1
mag_sum (pos a) (pos b) = omega arith
mag_sum (pos a) (negsuc b) = le_trans (mag-difference a (suc b)) (omega arith)
mag_sum (negsuc a) (pos b) = le_trans (mag-difference b (suc a)) (omega arith)
mag_sum (negsuc a) (negsuc b) = omega arith

pub sum_fits : (z w : ℤ) → mag z + mag w + 1 < 2 ^ 63 → SFits w64 (z +ℤ w)
sum_fits z w h = record { sfits = lt_of_le_of_lt (mag_sum z w) h }
