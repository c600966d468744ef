-- The weights of 000's CubicFarrow at the fraction m / 65536: each is a product of three differences,
-- halved or divided by six. Assumes nothing.
use mathlib.Core.Path.{◌≡◌}
use Prim.Native.Nat.{ℕ, ◌+◌, ◌*◌, ◌^◌, ◌≤◌}
use native.Mathlib.Nat.{mul-le-mul}
use native.Mathlib.Omega.{arith}
use lib.Dec.{lit≤}
use lib.IntN.{ℤ, pos, neg_ℤ, ◌+ℤ◌, ◌-ℤ◌, ◌*ℤ◌}
use lib.Ieee.{Float, binary64, add, sub, neg}
use Rattle.rounding_error.specs.Fraction.{zp, zn}
use Rattle.rounding_error.proofs.Same.{ring}
use Rattle.rounding_error.proofs.WholeDifferences.{Rep, rep-own, rep_pos, rep_neg, rep-minus, rep_mul, rep-to}
use Rattle.rounding_error.proofs.Integers.{Steps, rep-size, steps-neg, steps-add, steps-sub}
use Rattle.cubic_farrow.specs.Cubic.{one, two, c0, c1, c2, c3}
use Rattle.cubic_bound.specs.Exact.{M, weight0, weight1, weight2, weight3}
use Rattle.cubic_bound.proofs.Sixths.{Part, Weight, triple, sixth, half}

one-is : Steps one M 16
one-is = record { is = record { real = tt; same = omega arith } }

two_is : Steps two (pos 2 *ℤ M) 16
two_is = record { is = record { real = tt; same = omega arith } }

-- ---- (M + m)(M - m) ≤ M^2, for u = M - m
square : (m u : ℕ) → (m + u + m) * u ≤ (m + u) * (m + u)
square m u = omega arith

flat : (m u : ℕ) → m + u ≡ 65536 → (m + 65536) * u * (65536 + u) ≤ 2 ^ 49
flat m u h =
    let q : (65536 + m) * u ≤ 65536 * 65536 = rw h at (square m u) in
    let l : 65536 + u ≤ 2 ^ 17 = omega arith in
    omega (arith, mul-le-mul q l)

under : (a b c : ℕ) {x y z : ℕ} → x ≤ a → y ≤ b → z ≤ c → x * y * z ≤ a * b * c
under a b c h k l = mul-le-mul (mul-le-mul h k) l

three-more : (x y z : ℤ) → Rep (pos 3 *ℤ (x *ℤ y *ℤ z)) (3 * zp (x *ℤ y *ℤ z)) (3 * zn (x *ℤ y *ℤ z))
three-more x y z = rep-to (rep_mul (rep_pos 3) (rep-own (x *ℤ y *ℤ z))) (omega arith)

three-less : (x y z : ℤ) → Rep (neg_ℤ (pos 3) *ℤ (x *ℤ y *ℤ z)) (3 * zp (neg_ℤ x *ℤ y *ℤ z))
    (3 * zn (neg_ℤ x *ℤ y *ℤ z))
three-less x y z =
    let r = rep_mul (rep_mul (rep-own x) (rep-own y)) (rep-own z) in
    let s = rep_mul (rep_mul (rep_neg (rep-own x)) (rep-own y)) (rep-own z) in
    rep-to (rep_mul (rep_neg (rep_pos 3)) r)
    (go (zp x) (zn x) (zp y) (zn y) (zp z) (zn z) (zp (neg_ℤ x *ℤ y *ℤ z)) (zn (neg_ℤ x *ℤ y *ℤ z)) s.is)
  where
    go : (a b c d e f p n : ℕ)
        → p + ((b * c + a * d) * f + (b * d + a * c) * e) ≡ ((b * c + a * d) * e + (b * d + a * c) * f) + n
        → (0 * ((a * c + b * d) * e + (a * d + b * c) * f) + 3 * ((a * c + b * d) * f + (a * d + b * c) * e)) + 3 * n
        ≡ 3 * p
        + (0 * ((a * c + b * d) * f + (a * d + b * c) * e) + 3 * ((a * c + b * d) * e + (a * d + b * c) * f))
    go a b c d e f p n h = simp ring (omega (arith, simp ring at h))

module _ {mu : Float} {m : ℕ} (u : ℕ) (h : m + u ≡ 65536) (is : Steps mu (pos m) 16) where
  -- The differences mu, mu - 1, mu - 2 and mu + 1.
  itself : Part mu (pos m) 16 m
  itself = record { steps = is; small = omega arith }

  less_one : Part (sub binary64 mu one) (pos m -ℤ M) 16 u
  less_one =
      let s = rep-size {z = pos m -ℤ M} u (rep-minus (rep_pos m) (rep_pos 65536)) (omega arith) (omega arith) in
      record { steps = steps-sub binary64 (omega arith) (lit≤ tt) is one-is; small = s }

  less_two : Part (sub binary64 mu two) (pos m -ℤ pos 2 *ℤ M) 16 (65536 + u)
  less_two =
      let s =
      rep-size {z = pos m -ℤ pos 2 *ℤ M} (65536 + u) (rep-minus (rep_pos m) (rep_pos 131072)) (omega arith)
      (omega arith) in
      record { steps = steps-sub binary64 (omega arith) (lit≤ tt) is two_is; small = s }

  plus_one : Part (add binary64 mu one) (pos m +ℤ M) 16 (m + 65536)
  plus_one = record { steps = steps-add binary64 (omega arith) (lit≤ tt) is one-is; small = omega arith }

  pub first : Weight 1 2 (c0 binary64 mu) (weight0 (pos m))
  first =
      let minus : Part (neg mu) (neg_ℤ (pos m)) 16 m =
      record { steps = steps-neg is; small = rep-size m (rep_neg (rep_pos m)) (omega arith) (omega arith) } in
      sixth (under 65536 65536 131072 (omega arith) (omega arith) (omega arith))
      (triple (omega arith) (omega arith) (omega arith) minus less_one less_two)

  pub second : Weight 0 6 (c1 binary64 mu) (weight1 (pos m))
  second =
      half (weight1 (pos m)) (flat m u h) (three-more (pos m +ℤ M) (pos m -ℤ M) (pos m -ℤ pos 2 *ℤ M))
      (triple (omega arith) (omega arith) (omega arith) plus_one less_one less_two)

  pub third : Weight 0 6 (c2 binary64 mu) (weight2 (pos m))
  third =
      let minus : Part (neg (add binary64 mu one)) (neg_ℤ (pos m +ℤ M)) 16 (m + 65536) =
      record {
        steps = steps-neg plus_one.steps;
        small = rep-size (m + 65536) (rep_neg (rep_pos (m + 65536))) (omega arith) (omega arith);
      } in
      half (weight2 (pos m)) (omega (arith, flat u m (omega arith)))
      (three-less (pos m +ℤ M) (pos m) (pos m -ℤ pos 2 *ℤ M))
      (triple (omega arith) (omega arith) (omega arith) minus itself less_two)

  pub fourth : Weight 1 2 (c3 binary64 mu) (weight3 (pos m))
  fourth =
      sixth (under 131072 65536 65536 (omega arith) (omega arith) (omega arith))
      (triple (omega arith) (omega arith) (omega arith) plus_one itself less_one)
