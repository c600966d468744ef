-- What is added to a sample: 3 · 2^51 of the last unit of an f32, by the exponent of the f64, and at least as much as
-- for 2^-126. Assumes nothing.
use mathlib.Core.Path.{◌≡◌, refl, sym, ap, ◌∙◌, subst}
use mathlib.Core.Logic.{inl, inr}
use mathlib.Core.Bool.{Bool, true, false, cond}
use Prim.Native.Nat.{ℕ, zero, suc, ◌+◌, ◌-◌, ◌*◌, ◌/◌, ◌^◌, ◌≤◌, ◌<◌}
use native.Mathlib.Nat.{zero-add, mul-pos, lt_of_le_of_lt, mul-le-mul_left}
use native.Mathlib.Omega.{arith}
use borrow.Author.Tests.{lt-ltb, le-ltb}
use lib.Dec.{lit<}
use lib.IntN.{pos}
use lib.Pow.{pow-add, pow_pos, pow_mono, pow-lt}
use lib.Ieee.{Float, fin, binary64, round, mul, lt, of_bits, of_fields, odd}
use lib.Ieee.Exact.{HasValue, round_exact}
use lib.Ieee.Positive.{positive_of_value, mul_at}
use Rattle.rounding.proofs.Comparing.{lt-units}
use Rattle.rounding.proofs.NumberOrders.{lt-or-ge}
use Rattle.narrowing.proofs.Patterns.{value}
use Rattle.wav_store.specs.Inner.{least_added}

-- The factor 3 · 2^28.
abbrev pub times : Float
times = fin false 3 (pos 28)

least-value : HasValue least_added false (3 * 2 ^ 976) (2 ^ 1074)
least-value = (refl, refl)

-- A power of two by its field: 2^(51 + E) of the smallest f64.
power : (E : ℕ) → 0 < E → E < 2047 → HasValue (of_bits binary64 (E * 2 ^ 52)) false (2 ^ 52 * 2 ^ (E - 1)) (2 ^ 1074)
power E z l =
    let b = E * 2 ^ 52 in
    let d : b / 2 ^ 52 ≡ E = omega arith in
    let c : b - (b / 2 ^ 52 - 1) * 2 ^ 52 ≡ 2 ^ 52 = omega arith in
    subst (λ (n : ℕ). HasValue (of_bits binary64 n) false (2 ^ 52 * 2 ^ (E - 1)) (2 ^ 1074)) (zero-add b)
    (rw (c, d) at (value b (omega arith) false))

triple-lt : (a b : ℕ) → a < b → 3 * a < 3 * b
triple-lt a b h = omega arith

module _ (E : ℕ) (l : E < 1151) where
  abbrev scaled : Float
  scaled = mul binary64 (of_bits binary64 (E * 2 ^ 52)) times

  scaled_value : 0 < E → HasValue scaled false (3 * 2 ^ (79 + E)) (2 ^ 1074)
  scaled_value z =
      let h = of_bits binary64 (E * 2 ^ 52) in
      let a = 2 ^ 52 * 2 ^ (E - 1) in
      let p = power E z (omega arith) in
      let t : HasValue times false 805306368 1 = (refl, refl) in
      let m : 2 ^ (79 + E) ≡ 2 ^ 80 * 2 ^ (E - 1) = ap (λ (i : ℕ). 2 ^ i) (omega arith) ∙ pow-add 2 80 (E - 1) in
      let e : a * 805306368 ≡ 3 * 2 ^ (79 + E) = omega arith in
      let i : 79 + E ≤ 1229 = omega arith in
      let is : scaled ≡ round binary64 false (3 * 2 ^ (79 + E)) (2 ^ 1074) =
      mul_at binary64 h times a (2 ^ 1074) 805306368 1
      (positive_of_value h a (2 ^ 1074) p (mul-pos (lit< tt) (pow_pos (E - 1)))) tt (pow_pos 1074) (lit< tt) p t
      ∙ ap (λ (n : ℕ). round binary64 false n (2 ^ 1074)) e in
      subst (λ (y : Float). HasValue y false (3 * 2 ^ (79 + E)) (2 ^ 1074)) (sym is)
      (round_exact binary64 false (3 * 2 ^ (79 + E)) (2 ^ 1074) 3 (79 + E) (pow_pos 1074) (lit< tt)
      (lt_of_le_of_lt (mul-le-mul_left 3 (pow_mono i)) (lit< tt)) refl)

not-above : (E : ℕ) (l : E < 1151) → E ≤ 897 → lt least_added (scaled E l) ≡ false
unfolding mul of_bits of_fields odd round lt
not-above zero l h = refl
not-above (suc E) l h =
    let i : 79 + suc E ≤ 976 = omega arith in
    lt-units least_added (scaled (suc E) l) false false (3 * 2 ^ 976) (3 * 2 ^ (79 + suc E)) (2 ^ 1074) (pow_pos 1074)
    least-value (scaled_value (suc E) l (omega arith))
    ∙ le-ltb (3 * 2 ^ 976) (3 * 2 ^ (79 + suc E)) (mul-le-mul_left 3 (pow_mono i))

module _ (E : ℕ) (l : E < 1151) where
  abbrev chosen : Bool → Float
  chosen t = cond t (scaled E l) least_added

  -- From 2^-126 on it is more than the least that is added.
  pub above : 897 < E → HasValue (scaled E l) false (3 * 2 ^ 50 * 2 * 2 ^ (925 + (E - 897))) (2 ^ 1074)
  above g =
      let z : 0 < E = omega arith in
      let m : 2 ^ (79 + E) ≡ 2 ^ 51 * 2 ^ (925 + (E - 897)) =
      ap (λ (i : ℕ). 2 ^ i) (omega arith) ∙ pow-add 2 51 (925 + (E - 897)) in
      let e : 3 * 2 ^ (79 + E) ≡ 3 * 2 ^ 50 * 2 * 2 ^ (925 + (E - 897)) = omega arith in
      subst (λ (n : ℕ). HasValue (scaled E l) false n (2 ^ 1074)) e (scaled_value E l z)

  pub added : HasValue (chosen (lt least_added (scaled E l))) false (3 * 2 ^ 50 * 2 * 2 ^ (925 + (E - 897))) (2 ^ 1074)
  added = elim (lt-or-ge 897 E) [
    | inl g ↦
        let n : 976 < 79 + E = omega arith in
        let z : 0 < E = omega arith in
        let t : lt least_added (scaled E l) ≡ true =
        lt-units least_added (scaled E l) false false (3 * 2 ^ 976) (3 * 2 ^ (79 + E)) (2 ^ 1074) (pow_pos 1074)
        least-value (scaled_value E l z)
        ∙ lt-ltb (3 * 2 ^ 976) (3 * 2 ^ (79 + E)) (triple-lt _ _ (pow-lt n)) in
        rw t (above g)
    | inr g ↦
        let z : E - 897 ≡ 0 = omega arith in
        rw (not-above E l g, z) least-value
  ]
