-- The whole part of a float, limited to a top: above the top it is the top, between 0 and the top the floor, and below
-- 0 it is 0. Assumes nothing.
use mathlib.Core.Path.{◌≡◌, refl, sym, ◌∙◌, ap, subst}
use mathlib.Core.Bool.{Bool, true, false, true≢false}
use Prim.Native.Nat.{ℕ, ◌*◌, ◌/◌, ◌^◌, ◌<◌, ◌≤◌}
use native.Mathlib.Nat.{mul-one, mul_comm, mul_right_comm, le_of_mul-le-mul_right, lt_of_mul-lt-mul_right, le_trans}
use native.Mathlib.Nat.{le_of_lt, min-eq_left, min-eq_right, min-le_right, zero-div, div-le_of_le-mul}
use native.Mathlib.Nat.{le-div_iff_mul-le}
use native.Mathlib.Omega.{arith}
use borrow.Author.Tests.{ltb-true, ltb-false}
use lib.Dec.{lit≤}
use lib.IntN.{pos}
use lib.Ieee.{Float, nan, inf, fin, up, down, lt}
use lib.Ieee.Fits.{down_pos}
use lib.Ieee.Exact.{HasValue}
use Rattle.answer.specs.Answers.{zero-f}
use Rattle.integer_part.specs.Parts.{floor_of}
use Rattle.sinc_phases.specs.Phases.{cut_to}

no : {A : Type 0} → ◌≡◌ {A = Bool} true false → A
no h = absurd (true≢false h)

-- x is not negative, and below top.
abbrev pub Under : ℕ → Float → Type 0
Under top nan = ⊥
Under top (inf s) = ⊥
Under top (fin true m e) = ⊥
Under top (fin false m e) = m * up e < top * down e

pub under : (top : ℕ) (x y : Float) → HasValue y false top 1 → lt zero-f x ≡ true → lt x y ≡ true → Under top x
unfolding lt
under top nan y v p h = no (sym p)
under top (inf true) y v p h = no (sym p)
under top (inf false) nan v p h = absurd v
under top (inf false) (inf t) v p h = absurd v
under top (inf false) (fin t n d) v p h = no (sym h)
under top (fin true m e) y v p h = no (sym p)
under top (fin false m e) nan v p h = absurd v
under top (fin false m e) (inf t) v p h = absurd v
under top (fin false m e) (fin true n d) v p h = no v.0
under top (fin false m e) (fin false n d) v p h =
    lt_of_mul-lt-mul_right (down d)
    (subst (λ (z : ℕ). m * up e * down d < z)
    (ap (λ (z : ℕ). z * down e) (sym (mul-one (n * up d)) ∙ v.1) ∙ mul_right_comm top (down d) (down e))
    (ltb-true (m * up e * down d) (n * up d * down e) h))

-- Its floor is the limited whole part.
pub whole : (top : ℕ) (x : Float) → top ≤ 2 ^ 53 → Under top x → floor_of x ≡ pos (cut_to top x)
unfolding floor_of cut_to
whole top nan l u = absurd u
whole top (inf s) l u = absurd u
whole top (fin true m e) l u = absurd u
whole top (fin false m e) l u =
    let q : m * up e / down e ≤ top =
    div-le_of_le-mul (down e) (subst (λ (z : ℕ). m * up e ≤ z) (mul_comm top (down e)) (le_of_lt u)) in
    ap pos (min-eq_left (le_trans q (le_trans l (lit≤ tt))) ∙ sym (min-eq_left q))

pub over : (top : ℕ) (x y : Float) → HasValue y false top 1 → lt zero-f x ≡ true → lt x y ≡ false → top ≡ cut_to top x
unfolding lt cut_to
over top nan y v p h = no (sym p)
over top (inf true) y v p h = no (sym p)
over top (inf false) y v p h = refl
over top (fin true m e) y v p h = no (sym p)
over top (fin false m e) nan v p h = absurd v
over top (fin false m e) (inf t) v p h = absurd v
over top (fin false m e) (fin true n d) v p h = no v.0
over top (fin false m e) (fin false n d) v p h =
    let g : top * down e ≤ m * up e =
    le_of_mul-le-mul_right
    (subst (λ (z : ℕ). z ≤ m * up e * down d)
    (ap (λ (z : ℕ). z * down e) (sym (mul-one (n * up d)) ∙ v.1) ∙ mul_right_comm top (down d) (down e))
    (ltb-false (m * up e * down d) (n * up d * down e) h))
    (down_pos d) in
    sym (min-eq_right ((le-div_iff_mul-le (down_pos e)).1 g))

pub low : (top : ℕ) (x : Float) → lt zero-f x ≡ false → 0 ≡ cut_to top x
unfolding lt cut_to
low top nan h = refl
low top (inf true) h = refl
low top (inf false) h = no h
low top (fin true m e) h = refl
low top (fin false m e) h =
    let z : m * up e ≡ 0 = omega (arith, ltb-false (0 * 1 * down e) (m * up e * 1) h) in
    let o : 0 ≤ top = omega arith in
    sym (rw (z, zero-div (down e)) (min-eq_left o))

-- The result is never above the top.
pub held : (top : ℕ) (x : Float) → cut_to top x ≤ top
unfolding cut_to
held top nan = omega arith
held top (inf true) = omega arith
held top (inf false) = omega arith
held top (fin true m e) = omega arith
held top (fin false m e) = min-le_right (m * up e / down e) top
