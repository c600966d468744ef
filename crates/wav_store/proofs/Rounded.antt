-- The nearest f32 of an f64 without a branch. 3 · 2^51 of the f32's last unit are added and subtracted again, so that
-- the sum rounds at that unit; the sign is put back, because a zero has lost it. Assumes nothing.
use mathlib.Core.Path.{◌≡◌, refl, sym, ap, ◌∙◌, subst}
use mathlib.Core.Logic.{inl, inr}
use mathlib.Core.Bool.{Bool, true, false, cond, ◌&&◌}
use Prim.Native.Nat.{ℕ, ◌+◌, ◌-◌, ◌*◌, ◌/◌, ◌%◌, ◌^◌, ◌≤◌, ◌<◌}
use native.Mathlib.Nat.{zero-add, add_comm, add-mul, mul_assoc, mul-pos, zero-mul, mul-le-mul_right, mul-le-mul_left}
use native.Mathlib.Nat.{mul-lt-mul_of_pos_right, lt_of_le_of_lt, lt_of_lt_of_le, le_of_eq, le_trans}
use borrow.Author.Tests.{lt-ltb, le-ltb}
use native.Mathlib.Omega.{arith}
use lib.Dec.{T, ltb, lit<}
use lib.Pow.{pow-add, pow_pos, pow_mono}
use lib.Ieee.{Float, binary32, binary64, round, units, add, sub, neg, fits, of_bits, to_bits, sum, size}
use lib.Ieee.Bits.{to_bits-lt}
use lib.Ieee.Exact.{HasValue, round_exact, units_val}
use lib.Ieee.Fits.{round-fits, sub-fits, fits_widens}
use lib.Ieee.Nearest.{closest}
use lib.Ieee.Scale.{finite}
use Rattle.rounding.specs.Operations.{narrowed}
use Rattle.rounding.proofs.Adding.{add-units, minus}
use Rattle.rounding.proofs.NearestWhole.{closest-ge, closest-le, closest-shift}
use Rattle.rounding.proofs.DroppedDigits.{round-finer}
use Rattle.rounding.proofs.NumberOrders.{lt-or-ge, clash}
use Rattle.rounding.proofs.Sums.{sum_like, sum_over}
use Rattle.rounding.proofs.Units.{units-over, to_bits-value}
use Rattle.rounding.proofs.Values.{rescale, neg_value, value-finite}
use Rattle.rounding.proofs.RoundsToItself.{value-unique}
use Rattle.narrowing.proofs.Patterns.{exponent, count, under, value, narrows}
use Rattle.stored_samples.proofs.Halves.{closest-less}

-- The sign of a pattern is taken off, and another put on.
joined : (t s : Bool) (m n h l : ℕ) → m ≡ cond t (2 ^ 63) 0 + h + l → n ≡ cond s (2 ^ 63) 0 + h + l
    → 2 ^ 63 + (h + l) < 2 ^ 64 → m % 2 ^ 63 + cond s (2 ^ 63) 0 ≡ n
joined true true m n h l e f g = omega arith
joined true false m n h l e f g = omega arith
joined false true m n h l e f g = omega arith
joined false false m n h l e f g = omega arith

-- x has the sign s and, without it, the pattern b; it is finite as an f32.
module _ (s : Bool) (b : ℕ) (fine : b < 0x7ff0_0000_0000_0000) where
  abbrev x : Float
  x = of_bits binary64 (cond s 0x8000_0000_0000_0000 0 + b)

  abbrev k : ℕ
  k = b / 2 ^ 52 - 897

  -- The last unit of the f32, in smallest f64s.
  abbrev j : ℕ
  j = 925 + k

  abbrev v : ℕ
  v = count b * 2 ^ exponent b

  abbrev q : ℕ
  q = closest v (2 ^ j)

  shape : (a c d : ℕ) → a + c ≡ d + j → 2 ^ a * 2 ^ c ≡ 2 ^ d * 2 ^ j
  shape a c d e = sym (pow-add 2 a c) ∙ ap (λ (z : ℕ). 2 ^ z) e ∙ pow-add 2 d j

  v-lt : v < 2 ^ 24 * 2 ^ j
  v-lt =
      let e : exponent b ≤ 896 + k = omega arith in
      lt_of_lt_of_le (mul-lt-mul_of_pos_right (under b fine) (pow_pos (exponent b)))
      (le_trans (mul-le-mul_left (2 ^ 53) (pow_mono e)) (le_of_eq (shape 53 (896 + k) 24 (omega arith))))

  v-ge : 0 < k → 2 ^ 23 * 2 ^ j ≤ v
  v-ge h =
      let e : exponent b ≡ 896 + k = omega arith in
      let c : 2 ^ 52 ≤ count b = omega arith in
      le_trans (le_of_eq (sym (shape 52 (896 + k) 23 (omega arith))))
      (le_trans (le_of_eq (ap (λ (z : ℕ). 2 ^ 52 * 2 ^ z) (sym e))) (mul-le-mul_right (2 ^ exponent b) c))

  narrow-is : narrowed x ≡ units binary32 s q k
  narrow-is = narrows b fine s ∙ round-finer binary32 s v 925 k v-ge v-lt

  q-le : q ≤ 2 ^ 24
  q-le = closest-le v (2 ^ j) (2 ^ 24) (pow_pos j) v-lt

  -- A magnitude below 2 is finite as an f32.
  pub below_two : b / 2 ^ 52 < 1024 → T (finite (narrowed x))
  below_two h =
      let e : k ≤ 126 = omega arith in
      let l : q * 2 ^ k < 2 ^ 277 =
      lt_of_le_of_lt (mul-le-mul_right (2 ^ k) q-le)
      (lt_of_le_of_lt (mul-le-mul_left (2 ^ 24) (pow_mono e)) (lit< tt)) in
      value-finite (narrowed x) s (q * 2 ^ k) (2 ^ 149)
      (subst (λ (z : Float). HasValue z s (q * 2 ^ k) (2 ^ 149)) (sym narrow-is) (units_val binary32 s q k l))

  module _ (ok : T (finite (narrowed x))) where
    small : q * 2 ^ k < 2 ^ 277
    small = elim (lt-or-ge (q * 2 ^ k) (2 ^ 277)) [
      | inl l ↦ l
      | inr g ↦ absurd (subst (λ (z : Float). T (finite z)) (narrow-is ∙ units-over binary32 s q k g) ok)
    ]

    pub k_lt : k < 254
    k_lt = elim (lt-or-ge k 254) [
      | inl l ↦ l
      | inr g ↦
          let z : 0 < k = omega arith in
          let e : 277 ≤ 23 + k = omega arith in
          let c : 2 ^ 23 ≤ q = closest-ge v (2 ^ j) (2 ^ 23) (pow_pos j) (v-ge z) in
          absurd
          (clash (q * 2 ^ k) (2 ^ 277) small
          (le_trans (pow_mono e) (le_trans (le_of_eq (pow-add 2 23 k)) (mul-le-mul_right (2 ^ k) c))))
    ]

    -- ---- the sum: a whole number of the unit, from 2^52 to 2^53
    abbrev u : ℕ
    u = 2 ^ j

    abbrev big : ℕ
    big = 3 * 2 ^ 50 * 2 * u

    at_unit : (n : ℕ) → 2 ^ 52 * u ≤ n → n < 2 ^ 53 * u
        → round binary64 false n (2 ^ 1074) ≡ units binary64 false (closest n u) j
    at_unit n lo hi =
        round-finer binary64 false n 0 j (λ _. rw (zero-add j) lo) (rw (zero-add j) hi)
        ∙ ap (λ (i : ℕ). units binary64 false (closest n (2 ^ i)) j) (zero-add j)

    module _ (c : Float) (added : HasValue c false big (2 ^ 1074)) where
      own : HasValue x s v (2 ^ 1074)
      own = value b fine s

      abbrev total : ℕ
      total = cond s (3 * 2 ^ 50 * 2 - q) (3 * 2 ^ 50 * 2 + q)

      sum_is : add binary64 x c ≡ units binary64 false total j
      sum_is = add-units binary64 x c s false v big (2 ^ 1074) (pow_pos 1074) own added ∙ go s
        where
          go : (t : Bool) → sum binary64 t v false big (2 ^ 1074)
              ≡ units binary64 false (cond t (3 * 2 ^ 50 * 2 - q) (3 * 2 ^ 50 * 2 + q)) j
          go true =
              sum_over binary64 true false v big (2 ^ 1074) refl (omega (arith, v-lt, pow_pos j))
              ∙ at_unit (big - v) (omega (arith, v-lt)) (omega (arith, pow_pos j))
              ∙ ap (λ (z : ℕ). units binary64 false z j)
              (closest-less (3 * 2 ^ 50) v u (pow_pos j) (omega (arith, v-lt)))
          go false =
              sum_like binary64 false false v big (2 ^ 1074) refl
              ∙ ap (λ (z : ℕ). round binary64 false z (2 ^ 1074)) (add_comm v big)
              ∙ at_unit (big + v) (omega arith) (omega (arith, v-lt, pow_pos j))
              ∙ ap (λ (z : ℕ). units binary64 false z j) (closest-shift (3 * 2 ^ 50) v u (pow_pos j))

      total-le : total ≤ 2 ^ 53
      total-le = go s
        where
          go : (t : Bool) → cond t (3 * 2 ^ 50 * 2 - q) (3 * 2 ^ 50 * 2 + q) ≤ 2 ^ 53
          go true = omega arith
          go false = omega (arith, q-le)

      -- So many units are finite.
      held : (n : ℕ) → n ≤ 2 ^ 53 → n * u < 2 ^ 2098
      held n h =
          let e : j ≤ 1178 = omega (arith, k_lt) in
          lt_of_le_of_lt (mul-le-mul_right u h) (lt_of_le_of_lt (mul-le-mul_left (2 ^ 53) (pow_mono e)) (lit< tt))

      sum-value : HasValue (add binary64 x c) false (total * u) (2 ^ 1074)
      sum-value =
          subst (λ (z : Float). HasValue z false (total * u) (2 ^ 1074)) (sym sum_is)
          (units_val binary64 false total j (held total total-le))

      -- ---- the difference is exact
      exact : (t : Bool) → HasValue (round binary64 t (q * u) (2 ^ 1074)) t (q * u) (2 ^ 1074)
      exact t =
          let l : q < 2 ^ 53 = omega (arith, q-le) in
          round_exact binary64 t (q * u) (2 ^ 1074) q j (pow_pos 1074) l (held q (omega arith)) refl

      abbrev y : Float
      y = sub binary64 (add binary64 x c) c

      part : 3 * 2 ^ 50 * 2 * u + q * u ≡ (3 * 2 ^ 50 * 2 + q) * u
      part = sym (add-mul (3 * 2 ^ 50 * 2) q u)

      less : (3 * 2 ^ 50 * 2 - q) * u + q * u ≡ 3 * 2 ^ 50 * 2 * u
      less = sym (add-mul (3 * 2 ^ 50 * 2 - q) q u) ∙ ap (λ (z : ℕ). z * u) (omega (arith, q-le))

      abbrev t : Float
      t = add binary64 x c

      back : (n : ℕ) → HasValue t false n (2 ^ 1074) → big ≤ n → n - big ≡ q * u → HasValue y false (q * u) (2 ^ 1074)
      back n h l e =
          subst (λ (z : Float). HasValue z false (q * u) (2 ^ 1074))
          (sym (minus binary64 t c n big (2 ^ 1074) (pow_pos 1074) l h added
          ∙ ap (λ (z : ℕ). round binary64 false z (2 ^ 1074)) e))
          (exact false)

      forth : (n : ℕ) → HasValue t false n (2 ^ 1074) → n < big → big - n ≡ q * u → HasValue y true (q * u) (2 ^ 1074)
      unfolding sub
      forth n h l e =
          subst (λ (z : Float). HasValue z true (q * u) (2 ^ 1074))
          (sym (add-units binary64 t (neg c) false true n big (2 ^ 1074) (pow_pos 1074) h
          (neg_value c false big (2 ^ 1074) added)
          ∙ sum_over binary64 false true n big (2 ^ 1074) refl l
          ∙ ap (λ (z : ℕ). round binary64 true z (2 ^ 1074)) e))
          (exact true)

      -- It has the sign of x, unless it is zero.
      pub apart : HasValue y (s && ltb 0 q) (q * u) (2 ^ 1074)
      apart = go s sum-value
        where
          go : (r : Bool) → HasValue t false (cond r (3 * 2 ^ 50 * 2 - q) (3 * 2 ^ 50 * 2 + q) * u) (2 ^ 1074)
              → HasValue y (r && ltb 0 q) (q * u) (2 ^ 1074)
          go false h = back ((3 * 2 ^ 50 * 2 + q) * u) h (omega (arith, part)) (omega (arith, part))
          go true h = elim (lt-or-ge 0 q) [
            | inl l ↦
                let m = mul-pos l (pow_pos j) in
                rw (lt-ltb 0 q l) (forth ((3 * 2 ^ 50 * 2 - q) * u) h (omega (arith, less)) (omega (arith, less)))
            | inr g ↦
                let z : q * u ≡ 0 = ap (λ (n : ℕ). n * u) (omega arith) ∙ zero-mul u in
                rw (le-ltb 0 q g) (back ((3 * 2 ^ 50 * 2 - q) * u) h (omega (arith, less)) (omega (arith, less)))
          ]

      -- ---- with the sign of x it is the nearest f32
      abbrev w : Float
      w = round binary64 s (q * u) (2 ^ 1074)

      w-is : w ≡ narrowed x
      w-is =
          let n : HasValue (narrowed x) s (q * 2 ^ k) (2 ^ 149) =
          subst (λ (z : Float). HasValue z s (q * 2 ^ k) (2 ^ 149)) (sym narrow-is) (units_val binary32 s q k small) in
          let e : q * 2 ^ k * 2 ^ 1074 ≡ q * u * 2 ^ 149 =
          mul_assoc q (2 ^ k) (2 ^ 1074)
          ∙ ap (λ (z : ℕ). q * z) (sym (pow-add 2 k 1074) ∙ ap (λ (i : ℕ). 2 ^ i) (omega arith) ∙ pow-add 2 j 149)
          ∙ sym (mul_assoc q u (2 ^ 149)) in
          let m =
          subst (λ (z : Float). T (fits binary32 z)) (sym (narrows b fine s)) (round-fits binary32 s v (2 ^ 1074)) in
          value-unique binary64 w (narrowed x) s (q * u) (round-fits binary64 s (q * u) (2 ^ 1074))
          (fits_widens (narrowed x) m) (exact s)
          (rescale (narrowed x) s (q * 2 ^ k) (2 ^ 149) (q * u) (2 ^ 1074) (pow_pos 149) e n)

      -- From 2^-126 on it has the sign of x already.
      pub is-nearest : 0 < k → y ≡ narrowed x
      is-nearest z =
          let some : 0 < q = lt_of_lt_of_le (lit< tt) (closest-ge v (2 ^ j) (2 ^ 23) (pow_pos j) (v-ge z)) in
          value-unique binary64 y w s (q * u) (sub-fits binary64 (add binary64 x c) c)
          (round-fits binary64 s (q * u) (2 ^ 1074)) (signed s (rw (lt-ltb 0 q some) at apart)) (exact s)
          ∙ w-is
        where
          signed : (r : Bool) → HasValue y (r && true) (q * u) (2 ^ 1074) → HasValue y r (q * u) (2 ^ 1074)
          signed true h = h
          signed false h = h

      pub pattern : to_bits binary64 y % 2 ^ 63 + cond s (2 ^ 63) 0 ≡ to_bits binary64 (narrowed x)
      pattern =
          joined (s && ltb 0 q) s _ _ ((size (q * u) - 53) * 2 ^ 52) (q * u / 2 ^ (size (q * u) - 53))
          (to_bits-value binary64 y (s && ltb 0 q) (q * u) apart)
          (ap (to_bits binary64) (sym w-is) ∙ to_bits-value binary64 w s (q * u) (exact s)) short
        where
          short : 2 ^ 63 + ((size (q * u) - 53) * 2 ^ 52 + q * u / 2 ^ (size (q * u) - 53)) < 2 ^ 64
          short =
              let r = round binary64 true (q * u) (2 ^ 1074) in
              let n = to_bits-value binary64 r true (q * u) (exact true) in
              omega (arith, n, to_bits-lt binary64 r (round-fits binary64 true (q * u) (2 ^ 1074)))
