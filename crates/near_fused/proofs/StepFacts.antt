-- What the tests of the step show: the unit is a part of the margin, and every bound is one in units of 2 ^ -1074.
-- Assumes nothing.
use mathlib.Core.Path.{◌≡◌, sym, ◌∙◌}
use mathlib.Core.Bool.{Bool, true, false}
use Prim.Native.Nat.{ℕ, ◌+◌, ◌*◌, ◌^◌, ◌≤◌, ◌<◌}
use native.Mathlib.Nat.{le_trans, le_of_eq, lt_of_lt_of_le, mul-pos, mul_assoc, mul_comm, one-mul, mul-le-mul_right}
use native.Mathlib.Nat.{mul-le-mul_left, le_of_mul-le-mul_right}
use native.Mathlib.Omega.{arith}
use lib.Dec.{T, lit≤, lit<}
use lib.Pow.{pow_pos}
use lib.Ieee.{Float, binary64, mul, fits}
use lib.Ieee.Exact.{HasValue}
use lib.Ieee.Scale.{finite}
use Rattle.rounding_error.specs.Fraction.{Frac, frac, nil, Same, Within}
use Rattle.rounding_error.specs.Value.{signed, val}
use Rattle.rounding_error.proofs.Same.{ring, same-sym, same-trans}
use Rattle.rounding_error.proofs.Within.{from, rescale}
use Rattle.rounding_error.proofs.Value.{value-is}
use Rattle.rounding_error.proofs.ProductErrors.{mag-signed}
use Rattle.near_fused.specs.Parts.{high}
use Rattle.near_fused.proofs.UnitDistances.{Unit, Near}
use Rattle.near_fused.proofs.PatternSplit.{Split}
use Rattle.near_fused.proofs.ProductLowPart.{Factors}
use Rattle.near_fused.proofs.LowerPart.{cut, rests, cut-le, rest-same, rests-le}
use Rattle.near_fused.proofs.UpperProduct.{product-near}
use Rattle.near_fused.proofs.WholeStep.{Step}

deep : (E : ℕ) → 2 ^ 114 ≤ E → 2 ^ 1074 * 2048 ≤ E * 2 ^ 1020
deep E P = let z : 2 ^ 1074 * 2048 ≤ 2 ^ 114 * 2 ^ 1020 = lit≤ tt in le_trans z (mul-le-mul_right (2 ^ 1020) P)

-- ---- the unit: E / 2 ^ 1074 / 2048
pub unit : (E : ℕ) → 2 ^ 114 ≤ E → Unit
unit E P = record { g = 2 ^ 1074 * 2048; N = E; G = lit< tt; some = lt_of_lt_of_le (lit< tt) P; deep = deep E P }

scale : (A k E L : ℕ) → A * 2048 ≤ k * E → A * (L * 2048) ≤ k * E * L
scale A k E L h = simp ring (simp ring at (mul-le-mul_right L h))

rest-core : (D A E : ℕ) → D * 2 ^ 25 ≤ A + 2 ^ 52 → A ≤ E * 2 ^ 72 → 2 ^ 52 ≤ E → D * 2048 ≤ (2 ^ 58 + 1) * E
rest-core D A E a b c =
    le_of_mul-le-mul_right {k = 2 ^ 14}
    (le_trans (le_of_eq (mul_assoc D 2048 (2 ^ 14))) (le_trans a (le_trans (sum A E b c) (wide E)))) (lit< tt)
  where
    sum : (A E : ℕ) → A ≤ E * 2 ^ 72 → 2 ^ 52 ≤ E → A + 2 ^ 52 ≤ E * 2 ^ 72 + E
    sum A E b c = omega arith

    wide : (E : ℕ) → E * 2 ^ 72 + E ≤ (2 ^ 58 + 1) * E * 2 ^ 14
    wide E = omega arith

module _ (E : ℕ) (P : 2 ^ 114 ≤ E) where
  near-size : (s : Bool) (A k : ℕ) {x : Frac} → Same (signed s A (2 ^ 1074)) x → A * 2048 ≤ k * E
      → Near (unit E P) k x nil
  unfolding unit
  near-size s A k e h =
      from e (rescale (pow_pos 1074) (scale A k E (2 ^ 1074) h) (mag-signed s A (2 ^ 1074) (pow_pos 1074)))

  value-near : (x : Float) (s : Bool) (A k : ℕ) → HasValue x s A (2 ^ 1074) → A * 2048 ≤ k * E
      → Near (unit E P) k (val x) nil
  value-near x s A k v h = near-size s A k (same-sym (value-is x s A (2 ^ 1074) (pow_pos 1074) v).same) h

  -- ---- the parts
  module _ (v mu c e : Float) (X : Split v) (R : Split mu) (C : Split c) (small : Within 1 1 (val mu) nil)
      (x-most : X.q * 2 ^ X.k ≤ E * 2 ^ 72) (c-most : C.q * 2 ^ C.k ≤ E * 2 ^ 72) (held : T (fits binary64 c))
      (margin : HasValue e false E (2 ^ 1074)) (real : T (finite (mul binary64 (high v) (high mu)))) where
    mu-most : R.q * 2 ^ R.k ≤ 2 ^ 1074
    mu-most =
        go R.sign (R.q * 2 ^ R.k) (2 ^ 1074)
        (from (value-is mu R.sign (R.q * 2 ^ R.k) (2 ^ 1074) (pow_pos 1074) R.value).same small)
      where
        go : (s : Bool) (a c : ℕ) → Within 1 1 (signed s a c) nil → a ≤ c
        go false a c w = omega (arith, w.above)
        go true a c w = omega (arith, w.below)

    cut_most : cut mu R ≤ 2 ^ 1074
    cut_most = le_trans (cut-le mu R) mu-most

    most : (A : ℕ) → A ≤ E * 2 ^ 72 → A * 2048 ≤ 2 ^ 83 * E
    most A h = le_trans (mul-le-mul_right 2048 h) (le_of_eq (mul_assoc E (2 ^ 72) 2048 ∙ mul_comm E (2 ^ 83)))

    rest-most : rests v X * 2048 ≤ (2 ^ 58 + 1) * E
    rest-most = rest-core (rests v X) (X.q * 2 ^ X.k) E (rests-le v X) x-most (le_trans (lit≤ tt) P)

    mu-rest-most : rests mu R * 2 ^ 24 ≤ 1 * 2 ^ 1074
    mu-rest-most = go (rests mu R) (R.q * 2 ^ R.k) (2 ^ 1074) (rests-le mu R) mu-most (lit≤ tt)
      where
        go : (D A L : ℕ) → D * 2 ^ 25 ≤ A + 2 ^ 52 → A ≤ L → 2 ^ 52 ≤ L → D * 2 ^ 24 ≤ 1 * L
        go D A L a b c = omega arith

    factors : Factors (unit E P) v mu (high v) (high mu)
    factors =
        record {
          vh-size =
              value-near (high v) X.sign (cut v X) (2 ^ 83) X.upper
              (most (cut v X) (le_trans (cut-le v X) x-most));
          v-rest = near-size X.sign (rests v X) (2 ^ 58 + 1) (rest-same v X) rest-most;
          mu-size = small;
          mh-size =
              from (same-sym (value-is (high mu) R.sign (cut mu R) (2 ^ 1074) (pow_pos 1074) R.upper).same)
              (rescale (pow_pos 1074) (unit-le (cut mu R) (2 ^ 1074) cut_most)
              (mag-signed R.sign (cut mu R) (2 ^ 1074) (pow_pos 1074)));
          mu-rest =
              from (rest-same mu R)
              (rescale (pow_pos 1074) mu-rest-most (mag-signed R.sign (rests mu R) (2 ^ 1074) (pow_pos 1074)));
        }
      where
        unit-le : (a c : ℕ) → a ≤ c → a * 1 ≤ 1 * c
        unit-le a c h = omega arith

    pub step : Step (unit E P) v mu c (high v) (high mu) e
    unfolding unit
    step =
        record {
          factors = factors;
          held = held;
          addend = value-near c C.sign (C.q * 2 ^ C.k) (2 ^ 83) C.value (most (C.q * 2 ^ C.k) c-most);
          product = rescale (lit< tt) (one_unit (deep E P)) (product-near v mu X R cut_most real);
          margin =
              same-trans (value-is e false E (2 ^ 1074) (pow_pos 1074) margin).same
              (widened E (2 ^ 1074) (pow_pos 1074));
        }
      where
        widened : (E L : ℕ) → 0 < L → Same (frac E 0 L) (frac (2048 * E) 0 (L * 2048))
        widened E L h = record { left = h; right = mul-pos h (lit< tt); cross = simp ring (omega arith) }

        one_unit : 2 ^ 1074 * 2048 ≤ E * 2 ^ 1020 → 1 * (2 ^ 1074 * 2048) ≤ 1 * E * (2 ^ 1074 * 2)
        one_unit h =
            let z : 2 ^ 1020 ≤ 2 ^ 1074 * 2 = lit≤ tt in
            le_trans (le_of_eq (one-mul (2 ^ 1074 * 2048)))
            (le_trans h (le_trans (mul-le-mul_left E z) (le_of_eq (sym (one E (2 ^ 1074 * 2))))))
          where
            one : (E x : ℕ) → 1 * E * x ≡ E * x
            one E x = omega arith
