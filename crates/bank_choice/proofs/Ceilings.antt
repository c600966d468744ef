-- The ceiling of a number above 1, by its floor, which is the number cut towards zero, and a test: if the cut lies
-- below the number, the ceiling is one more. Assumes nothing.
use Rattle.std.proofs.Common.{
  ◌≡◌,
  ℕ,
  suc,
  ◌+◌,
  ◌-◌,
  ◌*◌,
  ◌/◌,
  ◌<◌,
  ◌≤◌,
  max,
  true,
  false,
  ℤ,
  pos,
  sym,
  refl,
  ap,
  ◌∙◌,
  subst,
  true≢false,
  le_trans,
  suc-mul,
  add-mul,
  lt_of_mul-lt-mul_right,
  le-div_iff_mul-le,
  mul-one,
  mul_right_comm,
  div-mul-le_self,
  le_of_mul-le-mul_right,
  add-one,
  arith,
  lit≤,
  ltb-false,
  ltb-true,
}
use native.Mathlib.Nat.{min-eq_left, max-eq_right, max-eq_left, div-eq_of_lt-le}
use lib.Ieee.{Float, nan, inf, fin, binary64, up, down, lt, to_unsigned}
use lib.Ieee.Fits.{down_pos}
use lib.Ieee.Exact.{HasValue}
use Rattle.magnitude.specs.Bounds.{AtMost}
use Rattle.magnitude.proofs.WholeFloats.{whole-value}
use Rattle.integer_part.specs.Parts.{floor_of}
use Rattle.integer_part.proofs.Floors.{quotient-at-most, ceiling-at-most, quotient-around}
use Rattle.sinc_settings.specs.Ranges.{one-f}
use Rattle.bank_choice.specs.Rates.{num, ceiling_of}

-- x is above 1 and at most 50.
abbrev pub Inside : Float → Type 0
Inside nan = ⊥
Inside (inf s) = ⊥
Inside (fin true m e) = ⊥
Inside (fin false m e) = (down e < m * up e) × (m * up e ≤ 50 * down e)

pub inside : (x : Float) → AtMost 50 x → lt one-f x ≡ true → Inside x
unfolding lt
inside nan a h = absurd a
inside (inf s) a h = absurd a
inside (fin true m e) a h = absurd (true≢false (sym h))
inside (fin false m e) a h = let l = ltb-true (1 * 1 * down e) (m * up e * 1) h in (omega arith, a)

pub low : (x : Float) → AtMost 50 x → lt one-f x ≡ false → 1 ≡ max 1 (ceiling_of x)
unfolding lt ceiling_of
low nan a h = absurd a
low (inf s) a h = absurd a
low (fin true m e) a h = refl
low (fin false m e) a h =
    let l = ltb-false (1 * 1 * down e) (m * up e * 1) h in
    sym (max-eq_left (ceiling-at-most (m * up e) (down e) 1 (down_pos e) (omega arith)))

-- ---- the cut
cut-is : (m : ℕ) (e : ℤ) → m * up e ≤ 50 * down e → to_unsigned 64 (fin false m e) ≡ m * up e / down e
unfolding to_unsigned
cut-is m e h = min-eq_left (le_trans (quotient-at-most _ _ 50 (down_pos e) h) (lit≤ tt))

pub cut_small : (x : Float) → Inside x → to_unsigned 64 x ≤ 50
cut_small nan u = absurd u
cut_small (inf s) u = absurd u
cut_small (fin true m e) u = absurd u
cut_small (fin false m e) u = rw (cut-is m e u.1) (quotient-at-most _ _ 50 (down_pos e) u.1)

-- The cut is the floor.
pub floor-is : (x : Float) → Inside x → floor_of x ≡ pos (to_unsigned 64 x)
unfolding floor_of
floor-is nan u = absurd u
floor-is (inf s) u = absurd u
floor-is (fin true m e) u = absurd u
floor-is (fin false m e) u =
    ap pos (min-eq_left (le_trans (quotient-at-most _ _ 50 (down_pos e) u.1) (lit≤ tt)) ∙ sym (cut-is m e u.1))

-- ---- the ceiling of a / d
more : (a d : ℕ) → 0 < d → a / d * d < a → (a + (d - 1)) / d ≡ suc (a / d)
more a d p h =
    div-eq_of_lt-le d (rw suc-mul (omega arith))
    (rw (add-mul (suc (a / d)) 1 d, suc-mul) (omega (arith, (quotient-around a d p).1)))

same : (a d : ℕ) → 0 < d → a ≤ a / d * d → (a + (d - 1)) / d ≡ a / d
same a d p h = div-eq_of_lt-le d (le_trans (div-mul-le_self a d) (omega arith)) (rw (add-mul (a / d) 1 d) (omega arith))

-- ---- the test
pub less : (y : Float) (q m : ℕ) (e : ℤ) → HasValue y false q 1 → lt y (fin false m e) ≡ true → q * down e < m * up e
unfolding lt
less nan q m e v h = absurd v
less (inf s) q m e v h = absurd v
less (fin true n d) q m e v h = absurd (true≢false v.0)
less (fin false n d) q m e v h =
    lt_of_mul-lt-mul_right (down d)
    (subst (λ (z : ℕ). z < m * up e * down d)
    (ap (λ (z : ℕ). z * down e) (sym (mul-one (n * up d)) ∙ v.1) ∙ mul_right_comm q (down d) (down e))
    (ltb-true (n * up d * down e) (m * up e * down d) h))

pub not-less : (y : Float) (q m : ℕ) (e : ℤ) → HasValue y false q 1 → lt y (fin false m e) ≡ false
    → m * up e ≤ q * down e
unfolding lt
not-less nan q m e v h = absurd v
not-less (inf s) q m e v h = absurd v
not-less (fin true n d) q m e v h = absurd (true≢false v.0)
not-less (fin false n d) q m e v h =
    le_of_mul-le-mul_right
    (subst (λ (z : ℕ). m * up e * down d ≤ z)
    (ap (λ (z : ℕ). z * down e) (sym (mul-one (n * up d)) ∙ v.1) ∙ mul_right_comm q (down d) (down e))
    (ltb-false (n * up d * down e) (m * up e * down d) h))
    (down_pos d)

held : (m : ℕ) (e : ℤ) → m * up e ≤ 50 * down e → HasValue (num (m * up e / down e)) false (m * up e / down e) 1
held m e h =
    whole-value binary64 (pos (m * up e / down e)) (le_trans (quotient-at-most _ _ 50 (down_pos e) h) (lit≤ tt))

pub stepped : (x : Float) → Inside x → lt (num (to_unsigned 64 x)) x ≡ true
    → to_unsigned 64 x + 1 ≡ max 1 (ceiling_of x)
unfolding ceiling_of
stepped nan u h = absurd u
stepped (inf s) u h = absurd u
stepped (fin true m e) u h = absurd u
stepped (fin false m e) u h =
    let c = cut-is m e u.1 in
    let q = m * up e / down e in
    let g = less (num q) q m e (held m e u.1) (rw c at h) in
    let l : 1 ≤ suc q = omega arith in
    rw (c, more (m * up e) (down e) (down_pos e) g, add-one q) (sym (max-eq_right l))

pub stayed : (x : Float) → Inside x → lt (num (to_unsigned 64 x)) x ≡ false → to_unsigned 64 x ≡ max 1 (ceiling_of x)
unfolding ceiling_of
stayed nan u h = absurd u
stayed (inf s) u h = absurd u
stayed (fin true m e) u h = absurd u
stayed (fin false m e) u h =
    let c = cut-is m e u.1 in
    let q = m * up e / down e in
    let g = not-less (num q) q m e (held m e u.1) (rw c at h) in
    let l : 1 ≤ q = (le-div_iff_mul-le (down_pos e)).1 (omega arith) in
    rw (c, same (m * up e) (down e) (down_pos e) g) (sym (max-eq_right l))
