-- The nearest f32 of a plain f64, without its sign, as the pattern of an f64: half a unit is added, and the 29 digits
-- that an f32 lacks are cut off. Assumes nothing.
use Rattle.std.proofs.Common.{◌≡◌, ℕ, ◌+◌, ◌-◌, ◌*◌, ◌/◌, ◌%◌, ◌^◌, ◌<◌, ◌≤◌, Bool, cond, T, sym, refl, ap, ◌∙◌, subst}
use Rattle.std.proofs.Common.{le_trans, le_of_eq, lt_of_le_of_lt, mul_assoc, mul-le-mul, arith, lit<, lit≤, pow_pos}
use Rattle.std.proofs.Common.{pow_mono, pow-add}
use lib.Ieee.{Float, binary32, binary64, round, fits, of_bits}
use lib.Ieee.Bits.{of_bits-to_bits}
use lib.Ieee.Exact.{HasValue, units_val}
use lib.Ieee.Fits.{round-fits, fits_widens}
use lib.Ieee.Nearest.{closest}
use Rattle.rounding.specs.Operations.{narrowed}
use Rattle.rounding.proofs.Units.{bits-units}
use Rattle.rounding.proofs.Values.{rescale}
use Rattle.rounding.proofs.WithinHalfDivisor.{closest-unique}
use Rattle.narrowing.proofs.Narrowed.{normal-units, digits-ge, digits_le}
use Rattle.narrowing.proofs.Patterns.{count, exponent, narrows}

abbrev pub d : ℕ
d = 2 ^ 29

-- If there is no tie, the nearest is the one that half a unit more reaches.
half_up : (q : ℕ) → (q % d ≡ 2 ^ 28 → ⊥) → closest q d ≡ (q + 2 ^ 28) / d
half_up q off = closest-unique q d ((q + 2 ^ 28) / d) (pow_pos 29) (omega arith) (omega arith)

module _ (s : Bool) (m : ℕ) (lo : 0x3810_0000_0000_0000 ≤ m) (hi : m < 0x47e0_0000_0000_0000)
    (off : m % d ≡ 2 ^ 28 → ⊥) where
  abbrev q : ℕ
  q = count m

  abbrev k : ℕ
  k = exponent m - 896

  abbrev x : Float
  x = of_bits binary64 (cond s 0x8000_0000_0000_0000 0 + m)

  -- The pattern m consists of the exponent k + 896 and the digits q, and the nearest f32 is c units of 2 ^ 29.
  abbrev c : ℕ
  c = closest q d

  ge : 2 ^ 52 ≤ q
  ge = omega arith

  lt : q < 2 ^ 53
  lt = omega arith

  rounds : narrowed x ≡ round binary32 s (q * 2 ^ (896 + k)) (2 ^ 1074)
  rounds =
      let fine : m < 0x7ff0_0000_0000_0000 = omega arith in
      let e : exponent m ≡ 896 + k = omega arith in
      narrows m fine s ∙ ap (λ (z : ℕ). round binary32 s (q * 2 ^ z) (2 ^ 1074)) e

  -- The value of the nearest f32, in the units of either format.
  value : HasValue (narrowed x) s (c * d * 2 ^ (896 + k)) (2 ^ 1074)
  value =
      let K : k ≤ 252 = omega arith in
      let small : c * 2 ^ k < 2 ^ 277 = lt_of_le_of_lt (mul-le-mul (digits_le s q k ge lt) (pow_mono K)) (lit< tt) in
      rescale (narrowed x) s (c * 2 ^ k) (2 ^ 149) (c * d * 2 ^ (896 + k)) (2 ^ 1074) (pow_pos 149) (finer c k)
      (subst (λ (y : Float). HasValue y s (c * 2 ^ k) (2 ^ 149)) (sym (rounds ∙ normal-units s q k ge lt))
      (units_val binary32 s c k small))
    where
      finer : (c k : ℕ) → c * 2 ^ k * 2 ^ 1074 ≡ c * d * 2 ^ (896 + k) * 2 ^ 149
      finer c k =
          mul_assoc c (2 ^ k) (2 ^ 1074)
          ∙ ap (λ (z : ℕ). c * z) (sym (pow-add 2 k 1074)
          ∙ ap (λ (z : ℕ). 2 ^ z) (omega arith)
          ∙ pow-add 2 (29 + (896 + k)) 149
          ∙ ap (λ (z : ℕ). z * 2 ^ 149) (pow-add 2 29 (896 + k)))
          ∙ sym (mul_assoc c (d * 2 ^ (896 + k)) (2 ^ 149))
          ∙ ap (λ (z : ℕ). z * 2 ^ 149) (sym (mul_assoc c d (2 ^ (896 + k))))

  held : T (fits binary64 (narrowed x))
  held =
      fits_widens (narrowed x)
      (subst (λ (y : Float). T (fits binary32 y)) (sym rounds) (round-fits binary32 s (q * 2 ^ (896 + k)) (2 ^ 1074)))

  pub cut : of_bits binary64 (cond s 0x8000_0000_0000_0000 0 + (m + 2 ^ 28) / d * d) ≡ narrowed x
  cut =
      let top : c * d ≤ 2 ^ 53 = le_trans (mul-le-mul (digits_le s q k ge lt) (le_of_eq refl)) (lit≤ tt) in
      let lead : 2 ^ 52 ≤ c * d = le_trans (lit≤ tt) (mul-le-mul (digits-ge s q k ge lt) (le_of_eq refl)) in
      let is : c ≡ (q + 2 ^ 28) / d = half_up q (λ e. off (omega arith)) in
      let p : (m + 2 ^ 28) / d * d ≡ (896 + k) * 2 ^ 52 + c * d = omega arith in
      ap (λ (z : ℕ). of_bits binary64 (cond s 0x8000_0000_0000_0000 0 + z)) p
      ∙ ap (of_bits binary64) (sym (bits-units binary64 (narrowed x) s (c * d) (896 + k) top (λ _. lead) value))
      ∙ of_bits-to_bits binary64 (narrowed x) held
