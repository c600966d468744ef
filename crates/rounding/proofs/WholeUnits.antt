-- A whole number v of the format's smallest values, rounded: the result is `near` of the unit 2 ^ `places`. Assumes
-- nothing.
use mathlib.Core.Path.{◌≡◌, sym, ap, ◌∙◌, subst}
use mathlib.Core.Bool.{Bool, cond}
use Prim.Native.Nat.{ℕ, ◌+◌, ◌-◌, ◌*◌, ◌^◌, ◌≤◌, ◌<◌}
use native.Mathlib.Nat.{le_trans, le_of_eq, lt_of_lt_of_le, mul-one, mul_assoc, mul-pos, mul-div_cancel}
use native.Mathlib.Omega.{arith}
use lib.Pow.{pow-add, pow_pos, pow_mono}
use lib.Ieee.{Float, Format, units, round, to_bits, prec, low, size, hid, top}
use lib.Ieee.Digits.{size-lt, size_reaches}
use lib.Ieee.Fits.{round_is}
use lib.Ieee.Exact.{HasValue, units_val}
use lib.Ieee.Nearest.{closest, closest_same}
use lib.Ieee.Scale.{overflow}
use Rattle.rounding.proofs.NearestWhole.{closest-ge, closest-le}
use Rattle.rounding.proofs.DroppedDigits.{prec-pos}
use Rattle.rounding.proofs.Units.{bits-units}
use Rattle.rounding.proofs.WithinHalfDivisor.{closest-multiple}

abbrev pub places : Format → ℕ → ℕ
places f v = size v - prec f

abbrev pub near : Format → ℕ → ℕ
near f v = closest v (2 ^ places f v)

module _ (f : Format) (v : ℕ) where
  unit-pos : 0 < 2 ^ places f v
  unit-pos = pow_pos (places f v)

  pub v-lt : v < 2 ^ prec f * 2 ^ places f v
  v-lt =
      let c : size v ≤ prec f + places f v = omega arith in
      lt_of_lt_of_le (size-lt v) (le_trans (pow_mono c) (le_of_eq (pow-add 2 (prec f) (places f v))))

  pub v-ge : 0 < places f v → hid f * 2 ^ places f v ≤ v
  v-ge h =
      let P : 0 < prec f = prec-pos f in
      let l : prec f - 1 + places f v < size v = omega arith in
      le_trans (le_of_eq (sym (pow-add 2 (prec f - 1) (places f v)))) (size_reaches v (prec f - 1 + places f v) l)

  pub near_le : near f v ≤ 2 ^ prec f
  near_le = closest-le v (2 ^ places f v) (2 ^ prec f) unit-pos v-lt

  pub near-ge : 0 < places f v → hid f ≤ near f v
  near-ge h = closest-ge v (2 ^ places f v) (hid f) unit-pos (v-ge h)

  pub round-units : (s : Bool) → round f s v (2 ^ low f) ≡ units f s (near f v) (places f v)
  round-units s =
      round_is f s v (2 ^ low f)
      ∙ ap (λ (z : ℕ). units f s (closest (v * 2 ^ low f) (2 ^ low f * 2 ^ (size z - prec f))) (size z - prec f))
      (mul-div_cancel v (pow_pos (low f)))
      ∙ ap (λ (z : ℕ). units f s z (places f v))
      (closest_same (v * 2 ^ low f) (2 ^ low f * 2 ^ places f v) v (2 ^ places f v)
      (mul-pos (pow_pos (low f)) unit-pos) unit-pos (mul_assoc v (2 ^ low f) (2 ^ places f v)))

  -- ---- the result is exact if v is a multiple of the unit, which it is if the unit is 1
  pub exact-multiple : (w : ℕ) → v ≡ w * 2 ^ places f v → near f v * 2 ^ places f v ≡ v
  exact-multiple w e =
      ap (λ (z : ℕ). closest z (2 ^ places f v) * 2 ^ places f v) e
      ∙ ap (λ (z : ℕ). z * 2 ^ places f v) (closest-multiple w (2 ^ places f v) unit-pos)
      ∙ sym e

  pub exact-short : places f v ≡ 0 → near f v * 2 ^ places f v ≡ v
  exact-short e = exact-multiple v (sym (mul-one v) ∙ ap (λ (z : ℕ). v * 2 ^ z) (sym e))

  -- ---- the value and the pattern of a finite result
  module _ (s : Bool) (fine : near f v * 2 ^ places f v < overflow f) where
    pub rounded-value : HasValue (round f s v (2 ^ low f)) s (near f v * 2 ^ places f v) (2 ^ low f)
    rounded-value =
        subst (λ (x : Float). HasValue x s (near f v * 2 ^ places f v) (2 ^ low f)) (sym (round-units s))
        (units_val f s (near f v) (places f v) fine)

    pub rounded-bits : to_bits f (round f s v (2 ^ low f)) ≡ cond s (top f) 0 + (places f v * hid f + near f v)
    rounded-bits = bits-units f (round f s v (2 ^ low f)) s (near f v) (places f v) near_le near-ge rounded-value
