-- K7, D2b. The weights' loop in fractions is Lagrange's formula. At the nodes it gives 1 for a weight's own node and 0
-- for the others, for any number of taps. By induction over the factors. Assumes nothing.
use mathlib.Core.Path.{◌≡◌, refl, sym, ap, ◌∙◌}
use mathlib.Core.Bool.{Bool, true, false, cond}
use Prim.Native.Nat.{ℕ, zero, suc, ◌-◌, ◌*◌, ◌<◌}
use native.Mathlib.Nat.{mul-one, mul-pos}
use native.Mathlib.Omega.{arith}
use borrow.Author.Tests.{eqb-true, eqb-false, ltb-false}
use lib.Dec.{eqb, ltb}
use lib.IntN.{ℤ, pos, negsuc, neg_ℤ, nat_abs, ◌-ℤ◌, ◌*ℤ◌, zero-*ℤ, *ℤ-zero, *ℤ_comm, +ℤ_invr}
use Rattle.lagrange_factors.specs.Weight.{weight, factor, Fraction, fractions, Is}
use Rattle.lagrange_factors.specs.Formula.{numerator, denominator}

times-one : (z : ℤ) → z *ℤ pos 1 ≡ z
times-one (pos n) = ap pos (mul-one n)
times-one (negsuc n) = ap (λ (m : ℕ). neg_ℤ (pos m)) (mul-one (suc n))

-- ---- the loop is the formula
module _ (p q : ℤ) (k : ℕ) where
  abbrev at : Fraction
  at = record { top = p; bottom = q }

  turned : (b : Bool) (n d t u v w : ℤ) → t ≡ u → v ≡ w
      → ◌≡◌ {A = Fraction} (cond b (record { top = n; bottom = d }) (record { top = n *ℤ t; bottom = d *ℤ v }))
      (record { top = cond b n (n *ℤ u); bottom = cond b d (d *ℤ w) })
  turned true n d t u v w e f = refl
  turned false n d t u v w e f = rw (e, f)

  pub formula : (n : ℕ) → weight fractions at k n ≡ record { top = numerator p q k n; bottom = denominator q k n }
  unfolding weight numerator denominator
  formula zero = refl
  formula (suc j) =
      ap (factor fractions at k j) (formula j)
      ∙ turned (eqb j k) (numerator p q k j) (denominator q k j) _ _ _ _
      (times-one (p *ℤ pos 1 -ℤ pos j *ℤ q) ∙ ap (λ (z : ℤ). z -ℤ pos j *ℤ q) (times-one p))
      (rw (times-one q, times-one (pos k), times-one (pos j)) (*ℤ_comm q _))

-- ---- the denominator is not zero
apart : (k j : ℕ) → (j ≡ k → ⊥) → 0 < nat_abs (pos k -ℤ pos j)
apart k zero h = omega arith
apart k (suc j) h = go (ltb k (suc j)) refl
  where
    go : (b : Bool) → ltb k (suc j) ≡ b → 0 < nat_abs (cond b (negsuc (suc j - suc k)) (pos (k - suc j)))
    go true e = omega arith
    go false e = let l = ltb-false k (suc j) e in omega arith

neg-pos : (n : ℕ) → 0 < n → 0 < nat_abs (neg_ℤ (pos n))
neg-pos zero h = h
neg-pos (suc n) h = h

abs-pos : (a b : ℤ) → 0 < nat_abs a → 0 < nat_abs b → 0 < nat_abs (a *ℤ b)
abs-pos (pos m) (pos n) p q = mul-pos p q
abs-pos (pos m) (negsuc n) p q = neg-pos (m * suc n) (mul-pos p q)
abs-pos (negsuc m) (pos n) p q = neg-pos (suc m * n) (mul-pos p q)
abs-pos (negsuc m) (negsuc n) p q = mul-pos p q

pub not-zero : (q : ℤ) → 0 < nat_abs q → (k n : ℕ) → 0 < nat_abs (denominator q k n)
unfolding denominator
not-zero q h k zero = omega arith
not-zero q h k (suc j) = go (eqb j k) refl (denominator q k j) (not-zero q h k j)
  where
    go : (b : Bool) → eqb j k ≡ b → (d : ℤ) → 0 < nat_abs d → 0 < nat_abs (cond b d (d *ℤ ((pos k -ℤ pos j) *ℤ q)))
    go true e d l = l
    go false e d l = abs-pos d ((pos k -ℤ pos j) *ℤ q) l (abs-pos (pos k -ℤ pos j) q (apart k j (eqb-false j k e)) h)

-- ---- a node's own weight: the numerator there is the denominator
all-cancel : (k n : ℕ) → numerator (pos k) (pos 1) k n ≡ denominator (pos 1) k n
unfolding numerator denominator
all-cancel k zero = refl
all-cancel k (suc j) =
    rw (all-cancel k j, times-one (pos j))
    (ap (λ (z : ℤ). cond (eqb j k) (denominator (pos 1) k j) (denominator (pos 1) k j *ℤ z)) (sym (times-one _)))

pub own : (k n : ℕ) → Is (pos 1) (weight fractions (fractions.number k) k n)
own k n =
    rw (formula (pos k) (pos 1) k n)
    record {
      proper = not-zero (pos 1) (omega arith) k n;
      value = all-cancel k n ∙ sym (*ℤ_comm (pos 1) (denominator (pos 1) k n) ∙ times-one (denominator (pos 1) k n));
    }

-- ---- at another node i the factor of i is zero, and a product stays zero
vanishes : (k i n : ℕ) → (i ≡ k → ⊥) → i < n → numerator (pos i) (pos 1) k n ≡ pos 0
unfolding numerator
vanishes k i zero h l = absurd (omega arith)
vanishes k i (suc j) h l = go (eqb j k) refl (eqb i j) refl (numerator (pos i) (pos 1) k j) (vanishes k i j h)
  where
    below : (i ≡ j → ⊥) → i < j
    below d = omega arith

    go : (b : Bool) → eqb j k ≡ b → (c : Bool) → eqb i j ≡ c → (w : ℤ) → (i < j → w ≡ pos 0)
        → cond b w (w *ℤ (pos i -ℤ pos j *ℤ pos 1)) ≡ pos 0
    go true e true f w z = absurd (h (eqb-true i j f ∙ eqb-true j k e))
    go true e false f w z = z (below (eqb-false i j f))
    go false e true f w z =
        let same : pos j *ℤ pos 1 ≡ pos i = times-one (pos j) ∙ ap pos (sym (eqb-true i j f)) in
        ap (λ (d : ℤ). w *ℤ (pos i -ℤ d)) same ∙ ap (λ (d : ℤ). w *ℤ d) (+ℤ_invr (pos i)) ∙ *ℤ-zero w
    go false e false f w z =
        let x = pos i -ℤ pos j *ℤ pos 1 in
        ap (λ (v : ℤ). v *ℤ x) (z (below (eqb-false i j f))) ∙ zero-*ℤ x

pub other : (k i n : ℕ) → (i ≡ k → ⊥) → i < n → Is (pos 0) (weight fractions (fractions.number i) k n)
other k i n h l =
    rw (formula (pos i) (pos 1) k n)
    record {
      proper = not-zero (pos 1) (omega arith) k n;
      value = vanishes k i n h l ∙ sym (zero-*ℤ (denominator (pos 1) k n));
    }
