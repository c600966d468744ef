-- A sum that is not zero. If it is above zero, its larger part has no minus sign; if it is below, the negated parts
-- have such a sum. Assumes nothing.
use Rattle.std.proofs.Common.{◌≡◌, ℕ, ◌+◌, ◌-◌, ◌^◌, ◌<◌, ◌≤◌, Bool, true, false, cond, not, T, ltb, sym, refl, ap, ◌∙◌}
use Rattle.std.proofs.Common.{inl, inr, true≢false, zero-le, le_of_eq, le_of_lt, eq-zero-or-pos, zero-mul, arith}
use Rattle.std.proofs.Common.{pow_pos, ltb-false, ltb-true, lt-ltb}
use mathlib.Core.Bool.{false≢true}
use lib.Ieee.{Float, Format, binary64, add, of_bits, neg, lt, below}
use lib.Ieee.Exact.{HasValue}
use lib.Ieee.Scale.{finite}
use Rattle.fused32.specs.Parts.{Ordered, Short, amount}
use Rattle.fused32.proofs.Compared.{zero-value}
use Rattle.fused32.proofs.Sums.{G, S, s-value, sum-under, to-zero, v, zero-to}
use Rattle.rounding.proofs.Adding.{add-units}
use Rattle.rounding.proofs.Comparing.{lt-units}
use Rattle.rounding.proofs.SumSymmetry.{add-swap, sum-neg}
use Rattle.rounding.proofs.NumberOrders.{clash}
use Rattle.rounding.proofs.Sums.{sum-sign, sum-size}
use Rattle.rounding.proofs.Values.{neg_value, value-finite}
use Rattle.rounding.proofs.WholeUnits.{exact-multiple, places}

-- The larger of two parts whose sum is above zero has no minus sign. A comparison shows which it is.
larger : (s t : Bool) (X Y : ℕ) → sum-sign s X t Y ≡ false → 0 < sum-size s X t Y
    → (below s X t Y ≡ true → (t ≡ false) × (X ≤ Y)) × (below s X t Y ≡ false → (s ≡ false) × (Y ≤ X))
larger true true X Y e h = absurd (true≢false e)
larger false false X Y e h = (λ l. (refl, le_of_lt (ltb-true X Y l)), λ l. (refl, ltb-false X Y l))
larger false true X Y e h = (λ l. absurd (false≢true l), λ l. (refl, go (ltb X Y) (ltb-false X Y) e))
  where
    go : (b : Bool) → (b ≡ false → Y ≤ X) → cond b true false ≡ false → Y ≤ X
    go true f e = absurd (true≢false e)
    go false f e = f refl
larger true false X Y e h =
    (λ l. (refl, go (ltb X Y) (ltb-true X Y) e), λ l. absurd (none (ltb X Y) (ltb-false 0 (X + Y) l) h))
  where
    go : (b : Bool) → (b ≡ true → X < Y) → cond b false (ltb Y X) ≡ false → X ≤ Y
    go true f e = le_of_lt (f refl)
    go false f e = ltb-false Y X e

    none : (b : Bool) → X + Y ≤ 0 → 0 < cond b (Y - X) (X - Y) → ⊥
    none true l h = omega arith
    none false l h = omega arith

abbrev pub short-neg : {x : Float} → Short x → Short (neg x)
short-neg {x} p =
    record {
      sign = not p.sign;
      digits = p.digits;
      places = p.places;
      few = p.few;
      bounded = p.bounded;
      value = neg_value x p.sign (amount p) (2 ^ 1074) p.value;
    }

pub swapped : (p c : Float) (P : Short p) (C : Short c) (f : Format) → add f p c ≡ add f c p
swapped p c P C f =
    add-swap f p c P.sign C.sign (amount P) (amount C) (2 ^ 1074) (pow_pos 1074) P.value C.value

module _ (p c : Float) (P : Short p) (C : Short c) (bounded : T (finite (add binary64 p c))) where
  abbrev s : Float
  s = add binary64 p c

  fine : G p c P C < 2 ^ (1074 + 1024)
  fine = sum-under p c P C bounded

  some : 0 < G p c P C → 0 < v p c P C
  some h =
      let w = v p c P C in
      elim (eq-zero-or-pos w) [
        | inl e ↦ absurd (clash 0 (G p c P C) h
            (le_of_eq (exact-multiple binary64 w 0 (e ∙ sym (zero-mul (2 ^ places binary64 w))) ∙ e)))
        | inr g ↦ g
      ]

  -- ---- above zero
  above : lt (of_bits binary64 0) s ≡ true → (S p c P C ≡ false) × (0 < v p c P C)
  above h = go (S p c P C) (sym (zero-to p c P C fine) ∙ h)
    where
      go : (s : Bool) → below false 0 s (G p c P C) ≡ true → (s ≡ false) × (0 < v p c P C)
      go true e = absurd (false≢true e)
      go false e = (refl, some (ltb-true 0 (G p c P C) e))

  abbrev test : Bool
  test = below P.sign (amount P) C.sign (amount C)

  test-is : lt p c ≡ test
  test-is = lt-units p c P.sign C.sign (amount P) (amount C) (2 ^ 1074) (pow_pos 1074) P.value C.value

  pick : lt (of_bits binary64 0) s ≡ true
      → (test ≡ true → (C.sign ≡ false) × (amount P ≤ amount C))
      × (test ≡ false → (P.sign ≡ false) × (amount C ≤ amount P))
  pick a = larger P.sign C.sign (amount P) (amount C) (above a).0 (above a).1

  pub second-larger : lt (of_bits binary64 0) s ≡ true → lt p c ≡ true → Ordered c p
  second-larger a l =
      let r = (pick a).0 (sym test-is ∙ l) in
      record { large = C; small = P; plus = r.0; order = r.1 }

  pub first-larger : lt (of_bits binary64 0) s ≡ true → lt p c ≡ false → Ordered p c
  first-larger a l =
      let r = (pick a).1 (sym test-is ∙ l) in
      record { large = P; small = C; plus = r.0; order = r.1 }

  -- ---- below zero
  under : lt s (of_bits binary64 0) ≡ true → (S p c P C ≡ true) × (0 < G p c P C)
  under h = go (S p c P C) (sym (to-zero p c P C fine) ∙ h)
    where
      go : (s : Bool) → below s (G p c P C) false 0 ≡ true → (s ≡ true) × (0 < G p c P C)
      go true e = (refl, omega (arith, ltb-true 0 (G p c P C + 0) e))
      go false e = absurd (clash (G p c P C) 0 (ltb-true (G p c P C) 0 e) zero-le)

  pub negatives : lt s (of_bits binary64 0) ≡ true → (f : Format) → add f (neg p) (neg c) ≡ neg (add f p c)
  negatives h f =
      add-units f (neg p) (neg c) (not P.sign) (not C.sign) (amount P) (amount C) (2 ^ 1074) (pow_pos 1074)
      (short-neg P).value (short-neg C).value
      ∙ sum-neg f P.sign (amount P) C.sign (amount C) (2 ^ 1074) (some (under h).1)
      ∙ ap neg (sym (add-units f p c P.sign C.sign (amount P) (amount C) (2 ^ 1074) (pow_pos 1074) P.value
      C.value))

  negative-value : HasValue (neg s) (not (S p c P C)) (G p c P C) (2 ^ 1074)
  negative-value = neg_value s (S p c P C) (G p c P C) (2 ^ 1074) (s-value p c P C fine)

  pub negative-bounded : T (finite (neg s))
  negative-bounded = value-finite (neg s) (not (S p c P C)) (G p c P C) (2 ^ 1074) negative-value

  pub negative-above : lt s (of_bits binary64 0) ≡ true → lt (of_bits binary64 0) (neg s) ≡ true
  negative-above h =
      lt-units (of_bits binary64 0) (neg s) false (not (S p c P C)) 0 (G p c P C) (2 ^ 1074)
      (pow_pos 1074) zero-value negative-value
      ∙ ap (λ (b : Bool). below false 0 (not b) (G p c P C)) (under h).0
      ∙ lt-ltb 0 (G p c P C) (under h).1
