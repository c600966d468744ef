-- The whole number nearest to a quotient at a half, where the even one is taken; on which side of a whole number it
-- lies; and the nearest to the difference with an even number. Nothing here is about floats. Assumes nothing.
use mathlib.Core.Path.{◌≡◌, sym, ap, ◌∙◌}
use mathlib.Core.Logic.{inl, inr}
use Prim.Native.Nat.{ℕ, suc, ◌+◌, ◌-◌, ◌*◌, ◌/◌, ◌%◌, ◌≤◌, ◌<◌}
use native.Mathlib.Nat.{lt_of_mul-lt-mul_right, le_trans, le_of_eq, add-mul, suc-mul, eq-or-lt_of_le, mul_right_comm}
use native.Mathlib.Omega.{arith}
use lib.Dec.{lit≤}
use lib.Ieee.Nearest.{closest, closest_same, closest_mono}
use lib.Ieee.Positive.{first_pos}
use Rattle.interval.proofs.Signed.{ring}
use Rattle.rounding.proofs.WithinHalfDivisor.{closest-near, closest-unique, closest-most}

-- ---- the nearest to q and a half
half_of : (q : ℕ) → closest (q * 2 + 1) 2 ≡ q + q % 2
half_of q =
    let d : (q * 2 + 1) / 2 ≡ q = omega arith in
    let r : (q * 2 + 1) % 2 ≡ 1 = omega arith in
    rw (d, r)

pub closest-half : (a D q : ℕ) → 0 < D → a * 2 ≡ (q * 2 + 1) * D → closest a D ≡ q + q % 2
closest-half a D q P e = closest_same a D (q * 2 + 1) 2 P (lit≤ tt) e ∙ half_of q

-- ---- compared with an even whole number u
module _ (a D u : ℕ) (P : 0 < D) (even : u % 2 ≡ 0) where
  pub stays-below : a * 2 + D < u * 2 * D → closest a D < u
  stays-below h = lt_of_mul-lt-mul_right D (omega (arith, (closest-near a D P).0, mul_right_comm u 2 D))

  pub gets-there : 0 < u → u * 2 * D ≤ a * 2 + D → u ≤ closest a D
  gets-there z h =
      let e : u ≡ (u - 1) + (u - 1) % 2 = omega arith in
      let s : ((u - 1) * 2 + 1) * D + D ≡ u * 2 * D =
      sym (suc-mul ((u - 1) * 2 + 1) D) ∙ ap (λ (z : ℕ). z * D) (omega arith) in
      le_trans (le_of_eq (e ∙ sym (half_of (u - 1)))) (closest_mono ((u - 1) * 2 + 1) 2 a D (lit≤ tt) P (omega arith))

  pub stays_at : a * 2 ≤ u * 2 * D + D → closest a D ≤ u
  stays_at h =
      let e : u + u % 2 ≡ u = omega arith in
      let s : (u * 2 + 1) * D ≡ u * 2 * D + D = ap (λ (z : ℕ). z * D) (omega arith) ∙ suc-mul (u * 2) D in
      le_trans (closest_mono a D (u * 2 + 1) 2 P (lit≤ tt) (omega arith)) (le_of_eq (half_of u ∙ e))

  pub goes-past : u * 2 * D + D < a * 2 → u < closest a D
  goes-past h = lt_of_mul-lt-mul_right D (omega (arith, (closest-near a D P).1, mul_right_comm u 2 D))

-- ---- the nearest to an even number less a quotient: a tie is a tie on both sides, and goes to the even number on both
module _ (K a D : ℕ) (P : 0 < D) (h : a ≤ K * 2 * D) where
  abbrev b : ℕ
  b = K * 2 * D - a

  abbrev c : ℕ
  c = closest a D

  most : c ≤ K * 2
  most = closest-most a D (K * 2) P h

  rest : (K * 2 - c) * D + c * D ≡ K * 2 * D
  rest = sym (add-mul (K * 2 - c) c D) ∙ ap (λ (z : ℕ). z * D) (omega (arith, most))

  -- a lies half a unit below c, so half a unit above c - 1, which is odd.
  from-above : (p : ℕ) → c ≡ suc p → c * D * 2 ≡ a * 2 + D → closest b D ≡ K * 2 - c
  from-above p i e =
      let m : c * D ≡ p * D + D = ap (λ (z : ℕ). z * D) i ∙ suc-mul p D in
      let g : (p * 2 + 1) * D ≡ p * D * 2 + D = simp ring (omega arith) in
      let t : c ≡ p + p % 2 = closest-half a D p P (omega arith) in
      let w : ((K * 2 - c) * 2 + 1) * D ≡ (K * 2 - c) * D * 2 + D = simp ring (omega arith) in
      closest-half b D (K * 2 - c) P (omega (arith, rest)) ∙ omega (arith, most)

  -- a lies half a unit above c, which is even, so b lies half a unit above K * 2 - c - 1, which is odd.
  from-below : a * 2 ≡ c * D * 2 + D → closest b D ≡ K * 2 - c
  from-below e =
      let g : (c * 2 + 1) * D ≡ c * D * 2 + D = simp ring (omega arith) in
      let t : c ≡ c + c % 2 = closest-half a D c P (omega arith) in
      let p = K * 2 - c - 1 in
      let i : c < K * 2 = lt_of_mul-lt-mul_right D (omega (arith, rest)) in
      let m : (K * 2 - c) * D ≡ p * D + D = ap (λ (z : ℕ). z * D) (omega arith) ∙ suc-mul p D in
      let w : (p * 2 + 1) * D ≡ p * D * 2 + D = simp ring (omega arith) in
      closest-half b D p P (omega (arith, rest)) ∙ omega arith

  pub closest-less : closest b D ≡ K * 2 - c
  closest-less =
      let n = closest-near a D P in
      elim (eq-or-lt_of_le n.0) [
        | inl e ↦ from-above (c - 1) (omega (arith, first_pos c D (omega arith))) e
        | inr l ↦ elim (eq-or-lt_of_le n.1) [
          | inl g ↦ from-below g
          | inr g ↦ closest-unique b D (K * 2 - c) P (omega (arith, rest)) (omega (arith, rest))
        ]
      ]
