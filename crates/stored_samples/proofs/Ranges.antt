-- W2e. Two comparisons show whether the rounded value fits, for any width. The ends in units are -2^(w-1) - 1/2, a tie
-- that goes to the even -2^(w-1), and 2^(w-1) - 1/2, a tie that goes to 2^(w-1). Assumes nothing.
use mathlib.Core.Path.{◌≡◌, refl, sym, ap, ◌∙◌}
use mathlib.Core.Logic.{inl, inr}
use mathlib.Core.Bool.{true, false, ◌&&◌}
use Prim.Native.Nat.{ℕ, zero, suc, ◌+◌, ◌-◌, ◌*◌, ◌%◌, ◌^◌, ◌≤◌, ◌<◌, zero-le}
use native.Mathlib.Nat.{pow-suc, mul_assoc, mul-mod_left, suc-mul, mul-pos}
use native.Mathlib.Omega.{arith}
use borrow.Author.Tests.{lt-ltb, le-leb}
use lib.Dec.{ltb, leb, leb→le, le→leb}
use lib.Arith.{le→nltb}
use lib.Pow.{pow_pos}
use lib.IntN.{ℤ, pos, negsuc, neg_ℤ}
use lib.Ieee.{Float, nan, inf, fin, up, down, lt, le, is_nan, eq}
use lib.Ieee.Fits.{down_pos}
use lib.Ieee.Nearest.{closest}
use Rattle.magnitude.proofs.Comparisons.{nlt→le, le-negative}
use Rattle.rounding.proofs.NumberOrders.{same_test, and-true, ltb_iff, lt-or-ge, clash}
use Rattle.stored_samples.specs.Stored.{nearest_whole, in_digits, fits_whole}
use Rattle.stored_samples.proofs.Halves.{stays-below, gets-there, stays_at, goes-past}

-- The two ends at a width of k + 2.
abbrev pub least : ℕ → Float
least k = fin true (2 ^ suc (suc k) + 1) (negsuc (suc k))

abbrev pub past : ℕ → Float
past k = fin false (2 ^ suc (suc k) - 1) (negsuc (suc k))

pub below-zero : (w n : ℕ) → in_digits w (neg_ℤ (pos n)) ≡ leb n (2 ^ (w - 1))
below-zero w zero = lt-ltb 0 (2 ^ (w - 1)) (pow_pos (w - 1)) ∙ sym (le-leb 0 (2 ^ (w - 1)) zero-le)
below-zero w (suc n) = refl

module _ (k : ℕ) where
  abbrev w : ℕ
  w = suc (suc k)

  abbrev u : ℕ
  u = 2 ^ suc k

  one_less : w - 1 ≡ suc k
  one_less = omega arith

  twice : 2 ^ w ≡ u * 2
  twice = pow-suc 2 (suc k)

  even : u % 2 ≡ 0
  even = ap (λ (z : ℕ). z % 2) (pow-suc 2 k) ∙ mul-mod_left (2 ^ k) 2

  -- a is the size of x in units, times the denominator d. Over the denominator of the ends both tests are about a.
  module _ (n d : ℕ) (D : 0 < d) where
    abbrev a : ℕ
    a = n * u

    double : n * 2 ^ w ≡ a * 2
    double = ap (λ (z : ℕ). n * z) twice ∙ sym (mul_assoc n u 2)

    under_top : ltb (n * 2 ^ w) ((2 ^ w - 1) * 1 * d) ≡ ltb (closest a d) u
    under_top =
        let s : (2 ^ w - 1) * 1 * d + d ≡ u * 2 * d =
        sym (suc-mul ((2 ^ w - 1) * 1) d) ∙ ap (λ (z : ℕ). z * d) (omega (arith, twice, pow_pos (suc k))) in
        ltb_iff (n * 2 ^ w) ((2 ^ w - 1) * 1 * d) (closest a d) u
        (λ h. stays-below a d u D even (omega (arith, double)))
        (λ h. elim (lt-or-ge (a * 2 + d) (u * 2 * d)) [
          | inl l ↦ omega (arith, double)
          | inr g ↦ absurd (clash (closest a d) u h (gets-there a d u D even (pow_pos (suc k)) g))
        ])

    from-least : (n * 2 ^ w ≤ (2 ^ w + 1) * 1 * d → closest a d ≤ u)
        × (closest a d ≤ u → n * 2 ^ w ≤ (2 ^ w + 1) * 1 * d)
    from-least =
        let s : (2 ^ w + 1) * 1 * d ≡ u * 2 * d + d =
        ap (λ (z : ℕ). z * d) (omega (arith, twice)) ∙ suc-mul (u * 2) d in (
          (λ h. stays_at a d u D even (omega (arith, double))),
          (λ h. elim (lt-or-ge (u * 2 * d + d) (a * 2)) [
            | inl l ↦ absurd (clash u (closest a d) (goes-past a d u D even l) h)
            | inr g ↦ omega (arith, double)
          ]),
        )

  negative : (m : ℕ) (e : ℤ) → le (least k) (fin true m e) ≡ leb (closest (m * up e * u) (down e)) u
  unfolding lt is_nan
  negative m e =
      let n = m * up e in
      let q = closest (n * u) (down e) in
      let f = from-least n (down e) (down_pos e) in
      same_test (le (least k) (fin true m e)) (leb q u)
      (λ t. le→leb q u (f.0 (le-negative true (2 ^ w + 1) (negsuc (suc k)) m e t)))
      (λ t.
      nlt→le (least k) (fin true m e) tt tt (le→nltb ((2 ^ w + 1) * 1 * down e) (n * 2 ^ w) (f.1 (leb→le q u t))))

  pub in-range : (x : Float) → (le (least k) x && lt x (past k)) ≡ fits_whole w x
  unfolding fits_whole nearest_whole le lt eq
  in-range nan = refl
  in-range (inf true) = refl
  in-range (inf false) = refl
  in-range (fin false m e) =
      rw (one_less, lt-ltb 0 ((2 ^ w + 1) * 1 * down e + m * up e * 2 ^ w) (omega (arith, down_pos e)))
      (under_top (m * up e) (down e) (down_pos e))
  in-range (fin true m e) =
      let y : 0 < (2 ^ w - 1) * 1 * down e = mul-pos (omega (arith, twice, pow_pos (suc k))) (down_pos e) in
      let z : 0 < m * up e * 2 ^ w + (2 ^ w - 1) * 1 * down e = omega arith in
      rw (negative m e, one_less, lt-ltb 0 (m * up e * 2 ^ w + (2 ^ w - 1) * 1 * down e) z)
      (and-true (leb (closest (m * up e * u) (down e)) u)
      ∙ sym (ap (λ (v : ℕ). leb (closest (m * up e * u) (down e)) (2 ^ v)) one_less)
      ∙ sym (below-zero w (closest (m * up e * u) (down e))))
