-- W2d. No whole number lies nearer to x · 2^(w-1) than the one that is stored, and of two as near it is the even one.
-- This is shown for any width, in exact fractions. Assumes nothing.
use mathlib.Core.Path.{◌≡◌, refl, sym, ap, ◌∙◌}
use mathlib.Core.Logic.{inl, inr}
use mathlib.Core.Bool.{Bool, true, false, cond, not}
use Prim.Native.Nat.{ℕ, zero, suc, ◌+◌, ◌-◌, ◌*◌, ◌%◌, ◌^◌, ◌≤◌, ◌<◌}
use native.Mathlib.Nat.{mul-le-mul_right, add-mul, suc-mul, le_trans, le_of_eq, zero-mul, le_of_mul-le-mul_right}
use native.Mathlib.Omega.{arith}
use lib.IntN.{ℤ, pos, negsuc, neg_ℤ, nat_abs}
use lib.Signed.{non_neg}
use lib.Ieee.{fin, up, down}
use lib.Ieee.Fits.{down_pos}
use lib.Ieee.Nearest.{closest}
use Rattle.interval.proofs.Rounded.{none}
use Rattle.rounding.specs.Nearest.{apart}
use Rattle.rounding.proofs.Distances.{no-nearer, as-near, apart-le, apart-eq}
use Rattle.rounding.proofs.NumberOrders.{lt-or-ge}
use Rattle.rounding.proofs.WithinHalfDivisor.{closest-near}
use Rattle.stored_samples.specs.Stored.{nearest_whole}
use Rattle.stored_samples.specs.Nearest.{off, NearestWhole}
use Rattle.stored_samples.proofs.Halves.{closest-half}

module _ (a D : ℕ) (P : 0 < D) where
  abbrev q : ℕ
  q = closest a D

  abbrev gap : ℕ → ℕ
  gap n = a - n * D + (n * D - a)

  -- On which side of the middle between q and n the quotient lies.
  sides : (n : ℕ) → (q < n → a * 2 ≤ (q + n) * D) × (n < q → (q + n) * D ≤ a * 2)
  sides n = (
    (λ l. omega (arith, (closest-near a D P).1, add-mul q n D, mul-le-mul_right D l, suc-mul q D)),
    (λ l. omega (arith, (closest-near a D P).0, add-mul q n D, mul-le-mul_right D l, suc-mul n D)),
  )

  closer : (n : ℕ) → gap q ≤ gap n
  closer n = no-nearer a D q n (sides n)

  little : gap q ≤ a
  little = le_trans (closer 0) (omega (arith, zero-mul D))

  -- If another is as near, they are neighbours, and the quotient is the half between them.
  tie : (n : ℕ) → (q ≡ n → ⊥) → gap q ≡ gap n → q % 2 ≡ 0
  tie n d e = elim (lt-or-ge q n) [
    | inl l ↦
        let i : n ≡ suc q = omega (arith, le_of_mul-le-mul_right {k = D} reach P) in
        let b : q ≡ q + q % 2 = closest-half a D q P (h ∙ ap (λ (z : ℕ). z * D) (omega arith)) in
        omega arith
    | inr g ↦
        let i : q ≡ suc n = omega (arith, le_of_mul-le-mul_right {k = D} back P, d) in
        let b : q ≡ n + n % 2 = closest-half a D n P (h ∙ ap (λ (z : ℕ). z * D) (omega arith)) in
        omega arith
  ]
    where
      h : a * 2 ≡ (q + n) * D
      h = as-near a D q n P d e

      reach : n * D ≤ suc q * D
      reach = omega (arith, h, (closest-near a D P).1, add-mul q n D, suc-mul q D)

      back : q * D ≤ suc n * D
      back = omega (arith, h, (closest-near a D P).0, add-mul q n D, suc-mul n D)

  -- The stored number with either sign.
  abbrev with : Bool → ℕ → ℤ
  with s n = cond s (neg_ℤ (pos n)) (pos n)

  size-with : (s : Bool) (n : ℕ) → nat_abs (with s n) ≡ n
  size-with true zero = refl
  size-with true (suc n) = refl
  size-with false n = refl

  off-with : (s : Bool) (n : ℕ) → off s a D (with s n) ≡ apart s a s (n * D)
  off-with true zero = omega (arith, zero-mul D)
  off-with true (suc n) = refl
  off-with false n = refl

  as-even : (s : Bool) (y : ℤ) → (y ≡ with s q → ⊥)
      → apart s a s (q * D) ≡ apart s a (not (non_neg y)) (nat_abs y * D) → q % 2 ≡ 0
  as-even s y d e = elim (apart-eq s (not (non_neg y)) a (q * D) (nat_abs y * D) e) [
    | inl g ↦
        let same = ap (λ (t : Bool). with t (nat_abs y)) (sym g.0) ∙ own y in
        tie (nat_abs y) (λ i. d (sym (ap (with s) i ∙ same))) g.1
    | inr g ↦
        let z : nat_abs y ≡ 0 = none (nat_abs y) D P (omega (arith, little)) in
        tie 0 (λ i. d (no_size y z ∙ sym (ap (with s) i ∙ zero-with s))) (omega (arith, zero-mul D, little))
  ]
    where
      own : (y : ℤ) → with (not (non_neg y)) (nat_abs y) ≡ y
      own (pos n) = refl
      own (negsuc n) = refl

      no_size : (y : ℤ) → nat_abs y ≡ 0 → y ≡ pos 0
      no_size (pos n) h = ap pos h
      no_size (negsuc n) h = absurd (omega arith)

      zero-with : (s : Bool) → with s 0 ≡ pos 0
      zero-with true = refl
      zero-with false = refl

  pub no-nearer-whole : (s : Bool) → NearestWhole s a D (with s q)
  no-nearer-whole s =
      record {
        nearest = λ y.
            le_trans (le_of_eq (off-with s q))
            (apart-le s (not (non_neg y)) a (q * D) (nat_abs y * D) (closer (nat_abs y)) little);
        even = λ y d e. ap (λ (z : ℕ). z % 2) (size-with s q) ∙ as-even s y d (sym (off-with s q) ∙ e);
      }

pub nearest-whole : (w : ℕ) (s : Bool) (m : ℕ) (e : ℤ)
    → NearestWhole s (m * up e * 2 ^ (w - 1)) (down e) (nearest_whole w (fin s m e))
unfolding nearest_whole
nearest-whole w s m e = no-nearer-whole (m * up e * 2 ^ (w - 1)) (down e) (down_pos e) s
