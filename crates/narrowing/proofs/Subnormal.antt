-- The third case of `magnitude`: an f64 below 2 ^ -126 as units of 2 ^ -149, which are the last digits of its sum with
-- 2 ^ -97. Assumes nothing.
use mathlib.Core.Path.{◌≡◌, refl, sym, ap, ◌∙◌, subst}
use mathlib.Core.Bool.{false, not, cond}
use Prim.Native.Nat.{ℕ, ◌+◌, ◌-◌, ◌*◌, ◌^◌, ◌≤◌, ◌<◌}
use native.Mathlib.Nat.{le_refl, le_trans, lt_of_lt_of_le, lt_of_le_of_lt, mul-le-mul_right, mul-le-mul_left}
use native.Mathlib.Nat.{mul-lt-mul_of_pos_right, lt_irrefl, zero-add, add_comm, le-add_right, add-lt-add_of_le_of_lt}
use native.Mathlib.Omega.{arith}
use lib.Dec.{T, lit≤, lit<}
use lib.Pow.{pow_pos, pow_mono}
use lib.Ieee.{Float, binary32, binary64, units, round, add, to_bits, of_bits, is_nan, odd, of_fields}
use lib.Ieee.Exact.{HasValue, units_val}
use lib.Ieee.Nearest.{closest}
use Rattle.narrowing.specs.Nearest.{Rounds}
use Rattle.narrowing.proofs.Narrowed.{low-units}
use Rattle.narrowing.proofs.Patterns.{under, count, exponent, narrows, value}
use Rattle.rounding.proofs.Adding.{plus}
use Rattle.rounding.proofs.NearestWhole.{closest-le, closest-shift}
use Rattle.rounding.proofs.DroppedDigits.{round-finer}
use Rattle.rounding.proofs.Pack.{pack}
use Rattle.rounding.proofs.Units.{bits-units}
use Rattle.rounding.proofs.Values.{value-no-nan}

-- 2 ^ -97 in smallest values of f64.
half : HasValue (of_bits binary64 0x39e0_0000_0000_0000) false (2 ^ 977) (2 ^ 1074)
unfolding of_bits of_fields odd
half = (refl, refl)

module _ (b : ℕ) (hi : b < 0x3810_0000_0000_0000) where
  abbrev v : ℕ
  v = count b * 2 ^ exponent b

  fine : b < 0x7ff0_0000_0000_0000
  fine = omega arith

  v-lt : v < 2 ^ 948
  v-lt =
      let e : exponent b ≤ 895 = omega arith in
      lt_of_lt_of_le (mul-lt-mul_of_pos_right (under b fine) (pow_pos (exponent b)))
      (le_trans (mul-le-mul_left (2 ^ 53) (pow_mono e)) (lit≤ tt))

  low-le : closest v (2 ^ 925) ≤ 2 ^ 23
  low-le = closest-le v (2 ^ 925) (2 ^ 23) (pow_pos 925) v-lt

  own : HasValue (of_bits binary64 b) false v (2 ^ 1074)
  own = subst (λ (z : ℕ). HasValue (of_bits binary64 z) false v (2 ^ 1074)) (zero-add b) (value b fine false)

  -- The sum with 2 ^ -97, and its pattern.
  abbrev sum : Float
  sum = add binary64 (of_bits binary64 b) (of_bits binary64 0x39e0_0000_0000_0000)

  abbrev q : ℕ
  q = 2 ^ 52 + closest v (2 ^ 925)

  q-le : q ≤ 2 ^ 53
  q-le = omega (arith, low-le)

  sum-value : HasValue sum false (q * 2 ^ 925) (2 ^ 1074)
  sum-value =
      let h : v < 2 ^ 977 = lt_of_lt_of_le v-lt (lit≤ tt) in
      let is : sum ≡ units binary64 false q 925 =
      plus binary64 (of_bits binary64 b) (of_bits binary64 0x39e0_0000_0000_0000) v (2 ^ 977) (2 ^ 1074)
      (pow_pos 1074) own half
      ∙ ap (λ (z : ℕ). round binary64 false z (2 ^ 1074)) (add_comm v (2 ^ 977))
      ∙ round-finer binary64 false (2 ^ 977 + v) 0 925 (λ _. le-add_right (2 ^ 977) v)
      (add-lt-add_of_le_of_lt (le_refl (2 ^ 977)) h)
      ∙ ap (λ (z : ℕ). units binary64 false z 925) (closest-shift (2 ^ 51) v (2 ^ 925) (pow_pos 925)) in
      subst (λ (x : Float). HasValue x false (q * 2 ^ 925) (2 ^ 1074)) (sym is)
      (units_val binary64 false q 925 (lt_of_le_of_lt (mul-le-mul_right (2 ^ 925) q-le) (lit< tt)))

  pub sum-no-nan : T (not (is_nan sum))
  sum-no-nan = value-no-nan sum false (q * 2 ^ 925) (2 ^ 1074) sum-value

  bits_are : to_bits binary64 sum ≡ 0 + (925 * 2 ^ 52 + q)
  bits_are = bits-units binary64 sum false q 925 q-le (λ _. le-add_right (2 ^ 52) (closest v (2 ^ 925))) sum-value

  pub bits-ge : 0x39e0_0000_0000_0000 ≤ to_bits binary64 sum
  bits-ge = omega (arith, bits_are)

  pub low-code : Rounds b (to_bits binary64 sum - 0x39e0_0000_0000_0000)
  low-code =
      let c = closest v (2 ^ 925) in
      let l : c ≤ 2 ^ 23 = low-le in
      let is : to_bits binary64 sum - 0x39e0_0000_0000_0000 ≡ 0 * 2 ^ 23 + c = omega (arith, bits_are) in
      record {
        small = omega arith;
        reads = λ s.
            ap (λ (z : ℕ). of_bits binary32 (cond s 0x8000_0000 0 + z)) is
            ∙ pack binary32 s c 0 (le_trans l (lit≤ tt)) (λ (k : 0 < 0). absurd (lt_irrefl 0 k)) (lit< tt)
            ∙ sym (narrows b fine s ∙ low-units s v (lt_of_lt_of_le v-lt (lit≤ tt)));
      }
