-- Products of whole numbers of 2 ^ -16, and their halves and sixths. Up to the division every step is exact: three
-- factors of 17 digits make 51, and 53 are kept. Halving is exact too, and a sixth is rounded once. Assumes nothing.
use Prim.Native.Nat.{ℕ, ◌+◌, ◌*◌, ◌^◌, ◌≤◌, ◌<◌}
use native.Mathlib.Nat.{le_trans, lt_of_le_of_lt, mul-le-mul, mul-le-mul_left}
use native.Mathlib.Omega.{arith}
use lib.Dec.{lit≤, lit<}
use lib.IntN.{ℤ, pos, nat_abs, ◌*ℤ◌}
use lib.Ieee.{Float, binary64, mul, div}
use Rattle.rounding_error.specs.Fraction.{over, zp, zn, whole, Same}
use Rattle.rounding_error.specs.Value.{Rounds}
use Rattle.rounding_error.proofs.Same.{same-trans}
use Rattle.rounding_error.proofs.Value.{is-near}
use Rattle.rounding_error.proofs.Exact.{div_is}
use Rattle.rounding_error.proofs.OperandErrors.{div-approx}
use Rattle.rounding_error.proofs.WholeDifferences.{Rep, rep-same}
use Rattle.rounding_error.proofs.Integers.{Steps, rep-size, size-parts, size-times, whole-mag, steps-mul}
use Rattle.cubic_farrow.specs.Cubic.{two, six}

-- ---- x is z / 2 ^ t, and |z| ≤ b
pub record Part (x : Float) (z : ℤ) (t b : ℕ) : Type 0 where
  pub steps : Steps x z t
  pub small : nat_abs z ≤ b

product : {x y : Float} {y' z : ℤ} {t u a b : ℕ} → t + u ≤ 1074 → a * b < 2 ^ 53 → Part x y' t a → Part y z u b
    → Part (mul binary64 x y) (y' *ℤ z) (t + u) (a * b)
product {y' = y'} {z} l h p q =
    let s = le_trans (size-times y' z) (mul-le-mul p.small q.small) in
    record { steps = steps-mul binary64 (lt_of_le_of_lt s h) l p.steps q.steps; small = s }

-- Three factors of at most 2 ^ 17.
pub triple : {x y z : Float} {i j k : ℤ} {a b c : ℕ} → a ≤ 2 ^ 17 → b ≤ 2 ^ 17 → c ≤ 2 ^ 17 → Part x i 16 a
    → Part y j 16 b → Part z k 16 c → Part (mul binary64 (mul binary64 x y) z) (i *ℤ j *ℤ k) 48 (a * b * c)
triple A B C p q r =
    product (lit≤ tt) (omega (arith, mul-le-mul (mul-le-mul A B) C))
    (product (lit≤ tt) (omega (arith, mul-le-mul A B)) p q) r

-- ---- c is w / 6M^3 with an error of e units of 2 ^ -54, and |w| is at most b / 6 of 6M^3
pub record Weight (e b : ℕ) (c : Float) (w : ℤ) : Type 0 where
  pub near : Rounds (2 ^ 54) e c (whole w (6 * 2 ^ 48))
  pub small : nat_abs w ≤ b * 2 ^ 48

over-six : (w : ℤ) → Same (over (whole w (2 ^ 48)) 6 1) (whole w (6 * 2 ^ 48))
over-six w = omega arith

over-two : (z : ℤ) → Same (over (whole z (2 ^ 48)) 2 1) (whole z (2 ^ 49))
over-two z = omega arith

-- A sixth is one rounding at a magnitude below 1, so it is off by at most 1 unit.
pub sixth : {x : Float} {w : ℤ} {b : ℕ} → b ≤ 2 ^ 49 → Part x w 48 b → Weight 1 2 (div binary64 x six) w
sixth {w = w} h p =
    let s = le_trans p.small h in
    record {
      near =
          div-approx binary64 3 (pos 1) 1 0 0 tt (lit< tt) p.steps.is (over-six w)
          (whole-mag w (2 ^ 54) (2 ^ 54) (6 * 2 ^ 48) (lit< tt) (le_trans (mul-le-mul_left (2 ^ 54) s) (lit≤ tt)))
          (lit≤ tt);
      small = s;
    }

-- Half of z is a sixth of 3z, and exact.
threefold : (z w : ℤ) → Rep w (3 * zp z) (3 * zn z) → Same (whole z (2 ^ 49)) (whole w (6 * 2 ^ 48))
threefold z w r = same-trans (omega arith) (rep-same (6 * 2 ^ 48) (lit< tt) r)

pub half : {x : Float} {z : ℤ} {b : ℕ} (w : ℤ) → b ≤ 2 ^ 49 → Rep w (3 * zp z) (3 * zn z) → Part x z 48 b
    → Weight 0 6 (div binary64 x two) w
half {z = z} w h r p =
    let s = le_trans p.small h in
    let d =
    div_is {f = binary64} {P = zp z} {N = zn z} {t = 49} 1 (pos 1) (lit< tt) p.steps.is (over-two z)
    (record { hi = omega (arith, size-parts z); lo = omega (arith, size-parts z); deep = lit≤ tt }) in
    record {
      near = is-near (2 ^ 54) (record { real = d.real; same = same-trans d.same (threefold z w r) });
      small = rep-size (6 * 2 ^ 48) r (omega (arith, size-parts z)) (omega (arith, size-parts z));
    }
