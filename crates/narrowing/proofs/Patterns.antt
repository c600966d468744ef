-- The f64 with the pattern b, as units, and the pattern of the nearest f32 if that is normal or an infinity. These are
-- two cases of `magnitude`. Assumes nothing.
use mathlib.Core.Path.{◌≡◌, refl, sym, ap, ◌∙◌, subst}
use mathlib.Core.Logic.{◌⊎◌, inl, inr}
use mathlib.Core.Bool.{Bool, true, false, cond}
use Prim.Native.Nat.{ℕ, ◌+◌, ◌-◌, ◌*◌, ◌/◌, ◌%◌, ◌^◌, ◌≤◌, ◌<◌}
use native.Mathlib.Nat.{le_refl, le_trans, lt_of_lt_of_le, mul_assoc, mul-le-mul_left, mul-lt-mul_of_pos_right}
use native.Mathlib.Nat.{eq-or-lt_of_le}
use native.Mathlib.Omega.{arith}
use lib.Dec.{lit≤}
use lib.Pow.{pow_pos, pow_mono}
use lib.Bits.{bit_and, and_mask}
use lib.Ieee.{Float, inf, binary32, binary64, round, of_bits}
use lib.Ieee.Exact.{HasValue, units_val}
use lib.Ieee.Nearest.{closest}
use Rattle.narrowing.specs.Nearest.{Rounds}
use Rattle.rounding.specs.Operations.{narrowed}
use Rattle.narrowing.proofs.Narrowed.{digits-ge, digits_le, narrowed-value, normal-over, normal-units}
use Rattle.rounding.proofs.NearestWhole.{closest-by-add, closest-shift}
use Rattle.rounding.proofs.Pack.{pack}
use Rattle.rounding.proofs.Patterns.{unpacked}

-- In smallest values of f64, b is `count` of the unit 2 ^ `exponent`.
abbrev pub exponent : ℕ → ℕ
exponent b = b / 2 ^ 52 - 1

abbrev pub count : ℕ → ℕ
count b = b - exponent b * 2 ^ 52

module _ (b : ℕ) (fine : b < 0x7ff0_0000_0000_0000) where
  pub under : count b < 2 ^ 53
  under = omega arith

  finite-size : count b * 2 ^ exponent b < 2 ^ (1074 + 1024)
  finite-size =
      let e : exponent b ≤ 2045 = omega arith in
      lt_of_lt_of_le (mul-lt-mul_of_pos_right under (pow_pos (exponent b)))
      (le_trans (mul-le-mul_left (2 ^ 53) (pow_mono e)) (lit≤ tt))

  pub value : (s : Bool)
      → HasValue (of_bits binary64 (cond s 0x8000_0000_0000_0000 0 + b)) s (count b * 2 ^ exponent b) (2 ^ 1074)
  value s =
      subst (λ (x : Float). HasValue x s (count b * 2 ^ exponent b) (2 ^ 1074)) (sym (unpacked binary64 s b fine))
      (units_val binary64 s (count b) (exponent b) finite-size)

  pub narrows : (s : Bool)
      → narrowed (of_bits binary64 (cond s 0x8000_0000_0000_0000 0 + b))
      ≡ round binary32 s (count b * 2 ^ exponent b) (2 ^ 1074)
  narrows s =
      narrowed-value (of_bits binary64 (cond s 0x8000_0000_0000_0000 0 + b)) s (count b * 2 ^ exponent b) (2 ^ 1074)
      (pow_pos 1074) (value s)

-- ---- at 2 ^ 128 and above: an infinity
of_inf : (s : Bool) → of_bits binary32 (cond s 0x8000_0000 0 + 0x7f80_0000) ≡ inf s
unfolding of_bits
of_inf true = refl
of_inf false = refl

inf-narrows : (s : Bool) → narrowed (of_bits binary64 (cond s 0x8000_0000_0000_0000 0 + 0x7ff0_0000_0000_0000)) ≡ inf s
unfolding of_bits narrowed
inf-narrows true = refl
inf-narrows false = refl

pub over-code : (b : ℕ) → 0x47f0_0000_0000_0000 ≤ b → b ≤ 0x7ff0_0000_0000_0000 → Rounds b 0x7f80_0000
over-code b lo hi = record { small = le_refl 0x7f80_0000; reads = λ s. of_inf s ∙ sym (go s (eq-or-lt_of_le hi)) }
  where
    go : (s : Bool) → (b ≡ 0x7ff0_0000_0000_0000) ⊎ (b < 0x7ff0_0000_0000_0000)
        → narrowed (of_bits binary64 (cond s 0x8000_0000_0000_0000 0 + b)) ≡ inf s
    go s (inl e) = ap (λ (z : ℕ). narrowed (of_bits binary64 (cond s 0x8000_0000_0000_0000 0 + z))) e ∙ inf-narrows s
    go s (inr l) =
        let k = exponent b - 896 in
        let e : exponent b ≡ 896 + k = omega arith in
        narrows b l s
        ∙ ap (λ (z : ℕ). round binary32 s (count b * 2 ^ z) (2 ^ 1074)) e
        ∙ normal-over s (count b) k (omega arith) (omega arith) (omega arith)

-- ---- a normal f32
pub normal-code : (b : ℕ) → 0x3810_0000_0000_0000 ≤ b → b < 0x47f0_0000_0000_0000
    → Rounds b ((b - 0x3800_0000_0000_0000 + (0x0fff_ffff + bit_and (b / 2 ^ 29) 1)) / 2 ^ 29)
normal-code b lo hi =
    let q = count b in
    let k = exponent b - 896 in
    let e : exponent b ≡ 896 + k = omega arith in
    let ge : 2 ^ 52 ≤ q = omega arith in
    let lt : q < 2 ^ 53 = omega arith in
    let fine : b < 0x7ff0_0000_0000_0000 = omega arith in
    let last : b / 2 ^ 29 % 2 ≡ (b - 0x3800_0000_0000_0000) / 2 ^ 29 % 2 = omega arith in
    let parts : b - 0x3800_0000_0000_0000 ≡ k * 2 ^ 22 * 2 * 2 ^ 29 + q = omega arith in
    let c : closest q (2 ^ 29) ≤ 2 ^ 24 = digits_le false q k ge lt in
    let is : (b - 0x3800_0000_0000_0000 + (0x0fff_ffff + bit_and (b / 2 ^ 29) 1)) / 2 ^ 29
    ≡ k * 2 ^ 23 + closest q (2 ^ 29) =
    ap (λ (z : ℕ). (b - 0x3800_0000_0000_0000 + (0x0fff_ffff + z)) / 2 ^ 29) (and_mask (b / 2 ^ 29) 1 ∙ last)
    ∙ sym (closest-by-add (b - 0x3800_0000_0000_0000) (2 ^ 28) (pow_pos 28))
    ∙ ap (λ (z : ℕ). closest z (2 ^ 29)) parts
    ∙ closest-shift (k * 2 ^ 22) q (2 ^ 29) (pow_pos 29)
    ∙ ap (λ (z : ℕ). z + closest q (2 ^ 29)) (mul_assoc k (2 ^ 22) 2) in
    record {
      small = subst (λ (z : ℕ). z ≤ 0x7f80_0000) (sym is) (room k (closest q (2 ^ 29)) (omega arith) c);
      reads = λ s.
          ap (λ (z : ℕ). of_bits binary32 (cond s 0x8000_0000 0 + z)) is
          ∙ pack binary32 s (closest q (2 ^ 29)) k c (λ _. digits-ge false q k ge lt) (omega arith)
          ∙ sym (narrows b fine s
          ∙ ap (λ (z : ℕ). round binary32 s (q * 2 ^ z) (2 ^ 1074)) e
          ∙ normal-units s q k ge lt);
    }
  where
    room : (k q : ℕ) → k < 254 → q ≤ 2 ^ 24 → k * 2 ^ 23 + q ≤ 0x7f80_0000
    room k q a b = omega arith
