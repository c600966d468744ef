-- The error budget of Demand 3, in units of 2 ^ -54. A term is at most b / 6 in magnitude and off by e units; sums add
-- both up and round once more. With whole samples of magnitude at most 1 the four terms are off by 2, 1, 1 and 2 units,
-- and the three sums add 2, 4 and 4: together 16 units, which is 2 ^ -50. Assumes nothing.
use Prim.Native.Nat.{ℕ, ◌+◌, ◌-◌, ◌*◌, ◌^◌, ◌≤◌}
use native.Mathlib.Nat.{add-sub_of_le, le_trans, mul-le-mul, mul-le-mul_left}
use native.Mathlib.Omega.{arith}
use lib.Dec.{T, lit≤, lit<}
use lib.IntN.{ℤ, pos, nat_abs, ◌+ℤ◌, ◌*ℤ◌}
use lib.Ieee.{Float, binary64, add, mul}
use Rattle.rounding_error.specs.Fraction.{whole}
use Rattle.rounding_error.specs.Value.{Rounds}
use Rattle.rounding_error.proofs.Within.{rescale}
use Rattle.rounding_error.proofs.OperandErrors.{step, add-approx, mul-approx}
use Rattle.rounding_error.proofs.Integers.{Steps, size-plus, size-times, whole-plus, whole-times, whole-mag}
use Rattle.cubic_farrow.specs.Cubic.{weighed}
use Rattle.cubic_bound.specs.Exact.{exact_cubic}
use Rattle.cubic_bound.proofs.Sixths.{Part, Weight}
use Rattle.cubic_bound.proofs.Weights.{first, second, third, fourth}

-- x is z / (6M^3 * 2^23) with an error of e units, and |z| is at most b / 6 of that.
record Sum (e b : ℕ) (x : Float) (z : ℤ) : Type 0 where
  near : Rounds (2 ^ 54) e x (whole z (6 * 2 ^ 71))
  small : nat_abs z ≤ b * 2 ^ 71

-- A product of magnitude at most 1 is rounded by at most 1 unit, and a sample of at most 1 keeps the error of its
-- weight. t is a bound of b / 6, in units.
term : {x c : Float} {s w : ℤ} {e b : ℕ} (t : ℕ) → 2 ^ 54 * (b * 2 ^ 71) ≤ t * (6 * 2 ^ 71)
    → (1 * e + t) * 1 ≤ 1 * 2 ^ 54 → Part x s 23 (2 ^ 23) → Weight e b c w
    → Sum (1 + 1 * e) b (mul binary64 x c) (s *ℤ w)
term {s = s} {w} {e} {b} t h l p c =
    let n : nat_abs (s *ℤ w) ≤ b * 2 ^ 71 =
    le_trans (size-times s w) (le_trans (mul-le-mul p.small c.small) (omega arith)) in
    record {
      near =
          mul-approx {B = 1} {t = t} binary64 1 0 0 tt p.steps.is
          (whole-mag s 1 1 (2 ^ 23) (lit< tt) (omega (arith, p.small))) c.near
          (whole-times s w (2 ^ 23) (6 * 2 ^ 48) (lit< tt))
          (whole-mag (s *ℤ w) (2 ^ 54) t (6 * 2 ^ 71) (lit< tt) (le_trans (mul-le-mul_left (2 ^ 54) n) h)) l;
      small = n;
    }

-- One more term: a sum of at most 2^k is rounded by at most r units.
more : {x y : Float} {a c : ℤ} {e e' b b' : ℕ} (r k t : ℕ) → T (step binary64 (2 ^ 54) r 0 k)
    → 2 ^ 54 * ((b + b') * 2 ^ 71) ≤ t * (6 * 2 ^ 71) → (e + e' + t) * 1 ≤ 2 ^ k * 2 ^ 54
    → Sum e b x a → Sum e' b' y c → Sum (r + (e + e')) (b + b') (add binary64 x y) (a +ℤ c)
more {a = a} {c} {b = b} {b'} r k t s h l p q =
    let n : nat_abs (a +ℤ c) ≤ (b + b') * 2 ^ 71 = le_trans (size-plus a c) (omega (arith, p.small, q.small)) in
    record {
      near =
          add-approx {t = t} binary64 r 0 k s p.near q.near (whole-plus a c (6 * 2 ^ 71) (lit< tt))
          (whole-mag (a +ℤ c) (2 ^ 54) t (6 * 2 ^ 71) (lit< tt) (le_trans (mul-le-mul_left (2 ^ 54) n) h)) l;
      small = n;
    }

-- ---- the four terms and their sum, which is at most 16/6 in magnitude
module _ {mu xm1 x0 x1 x2 : Float} {m : ℕ} {s0 s1 s2 s3 : ℤ} (M≥m : m ≤ 65536) (fraction : Steps mu (pos m) 16)
    (p0 : Part xm1 s0 23 (2 ^ 23)) (p1 : Part x0 s1 23 (2 ^ 23)) (p2 : Part x1 s2 23 (2 ^ 23))
    (p3 : Part x2 s3 23 (2 ^ 23)) where
  budget : Rounds (2 ^ 54) 16 (weighed binary64 mu xm1 x0 x1 x2) (exact_cubic (pos m) s0 s1 s2 s3)
  budget =
      let u = 65536 - m in
      let e = add-sub_of_le M≥m in
      let t0 : Sum 2 2 _ _ = term (2 ^ 53) (lit≤ tt) (lit≤ tt) p0 (first u e fraction) in
      let t1 : Sum 1 6 _ _ = term (2 ^ 54) (lit≤ tt) (lit≤ tt) p1 (second u e fraction) in
      let t2 : Sum 1 6 _ _ = term (2 ^ 54) (lit≤ tt) (lit≤ tt) p2 (third u e fraction) in
      let t3 : Sum 2 2 _ _ = term (2 ^ 53) (lit≤ tt) (lit≤ tt) p3 (fourth u e fraction) in
      -- The sum is at most 8/6, so it is rounded by 2 units: 2 + 2 + 1.
      let s1 : Sum 5 8 _ _ = more 2 1 (3 * 2 ^ 53) tt (lit≤ tt) (lit≤ tt) t0 t1 in
      -- The sum is at most 14/6, so it is rounded by 4 units: 4 + 5 + 1.
      let s2 : Sum 10 14 _ _ = more 4 2 (5 * 2 ^ 53) tt (lit≤ tt) (lit≤ tt) s1 t2 in
      -- The sum is at most 16/6: 4 + 10 + 2 units.
      let s3 : Sum 16 16 _ _ = more 4 2 (3 * 2 ^ 54) tt (lit≤ tt) (lit≤ tt) s2 t3 in
      s3.near

  -- The reading's formula, at the fraction m / 65536 and samples s / 2^23 of magnitude at most 1,
  -- lies within 2^-50 of the exact cubic.
  pub cubic-error : Rounds (2 ^ 50) 1 (weighed binary64 mu xm1 x0 x1 x2) (exact_cubic (pos m) s0 s1 s2 s3)
  cubic-error = record { real = budget.real; near = rescale (lit< tt) (lit≤ tt) budget.near }
