-- E4. 2 ^ x in its three parts. Beyond 1/2 in magnitude x is a whole number of 2 ^ -53, so x - 1 and x + 1 are exact
-- and at most 1/2, and the value is doubled or halved. Assumes nothing.
use mathlib.Core.Path.{◌≡◌, sym, subst}
use mathlib.Core.Bool.{Bool, true, false, not}
use Prim.Native.Nat.{ℕ, ◌+◌, ◌*◌, ◌≤◌, ◌<◌}
use native.Mathlib.Omega.{arith}
use lib.IntN.{negsuc}
use lib.Dec.{T, leb→le, lit<}
use lib.Ieee.{Float, nan, inf, fin, binary64, up, down, neg, add, sub, mul, lt, fits}
use lib.Ieee.Fits.{down_pos}
use Rattle.rounding_error.specs.Fraction.{frac, nil, plus, times, Within}
use Rattle.rounding_error.specs.Value.{val}
use Rattle.rounding_error.proofs.Value.{val_pos, is-val}
use Rattle.rounding_error.proofs.Compare.{is_below, not-below}
use Rattle.polynomials.specs.Horner.{power_near}
use Rattle.polynomials.specs.Range.{at_most}
use Rattle.elementary.specs.Answers.{one, two, half, power_at}
use Rattle.elementary.specs.Close.{Part, power_fraction, PowerClose}
use Rattle.polynomials.proofs.Squares.{at-most-finite}
use Rattle.elementary.proofs.ExactShift.{unit-of, minus_one, plus_one}
use Rattle.elementary.proofs.PowerNear.{power-tight, as-it-is, doubled, halved}
use Rattle.elementary.proofs.PickedPolynomial.{clash}

-- ---- the three parts
above : (x : Float) → T (fits binary64 x) → T (at_most 1 x) → lt half x ≡ true
    → Part (mul binary64 two (power_near (sub binary64 x one)))
    (times (frac 2 0 1) (power_fraction (plus (val x) (frac 0 1 1))))
above nan f h t = absurd h
above (inf s) f h t = absurd h
above (fin true m e) f h t = absurd (none (m * up e) (down e) (is_below (fin true m e) tt (is-val half tt) t))
  where
    none : (A C : ℕ) → 1 * C + A * 2 < 0 * 2 + 0 * C → ⊥
    none A C h = omega arith
above (fin false m e) f h t =
    let l = is_below (fin false m e) tt (is-val half tt) t in
    let i = minus_one (unit-of false m e f h (omega arith)) in
    doubled (power-tight (sub binary64 (fin false m e) one) (plus (val (fin false m e)) (frac 0 1 1)) i
    (near (m * up e) (down e) (down_pos e) (leb→le (m * up e) (1 * down e) h) l))
  where
    near : (A C : ℕ) → 0 < C → A ≤ 1 * C → 1 * C + 0 * 2 < A * 2 + 0 * C
        → Within 2 1 (plus (frac A 0 C) (frac 0 1 1)) nil
    near A C P b l = omega arith

below : (x : Float) → T (fits binary64 x) → T (at_most 1 x) → lt x (neg half) ≡ true
    → Part (mul binary64 half (power_near (add binary64 x one)))
    (times (frac 1 0 2) (power_fraction (plus (val x) (frac 1 0 1))))
unfolding neg
below nan f h t = absurd h
below (inf s) f h t = absurd h
below (fin false m e) f h t =
    absurd (none (m * up e) (down e) (is_below (fin true 1 (negsuc 0)) tt (is-val (fin false m e) tt) t))
  where
    none : (A C : ℕ) → A * 2 + 1 * C < 0 * C + 0 * 2 → ⊥
    none A C h = omega arith
below (fin true m e) f h t =
    let l = is_below (fin true 1 (negsuc 0)) tt (is-val (fin true m e) tt) t in
    let i = plus_one (unit-of true m e f h (omega arith)) in
    halved (power-tight (add binary64 (fin true m e) one) (plus (val (fin true m e)) (frac 1 0 1)) i
    (near (m * up e) (down e) (down_pos e) (leb→le (m * up e) (1 * down e) h) l))
  where
    near : (A C : ℕ) → 0 < C → A ≤ 1 * C → 0 * 2 + 1 * C < 0 * C + A * 2
        → Within 2 1 (plus (frac 0 A C) (frac 1 0 1)) nil
    near A C P b l = omega arith

middle : (x : Float) → T (at_most 1 x) → lt half x ≡ false → lt x (neg half) ≡ false
    → Part (power_near x) (power_fraction (val x))
unfolding neg
middle x h t u =
    let i = is-val x (at-most-finite 1 x h) in
    let a = not-below x (at-most-finite 1 x h) (is-val half tt) t in
    let b = not-below (fin true 1 (negsuc 0)) tt i u in
    as-it-is (power-tight x (val x) i
    (record { left = val_pos x; right = lit< tt; above = omega arith; below = omega arith }))

not-both : (x : Float) → T (at_most 1 x) → T (lt half x) → T (lt x (neg half)) → ⊥
unfolding neg lt
not-both nan h t u = h
not-both (inf s) h t u = h
not-both (fin false m e) h t u = u
not-both (fin true m e) h t u = t

-- ---- the value, and how near it is
pub power-above : {v : Float} (x : Float) → T (fits binary64 x) → T (at_most 1 x) → lt half x ≡ true
    → v ≡ mul binary64 two (power_near (sub binary64 x one)) → (v ≡ power_at x) × PowerClose x v
unfolding power_at
power-above x f h t e =
    let a = subst T (sym t) tt in (
      rw t e,
      record {
        middle = λ u w. absurd (clash (lt half x) a u);
        above = λ u. rw e (above x f h t);
        below = λ u. absurd (not-both x h a u);
      },
    )

pub power_below : {v : Float} (x : Float) → T (fits binary64 x) → T (at_most 1 x) → lt half x ≡ false
    → lt x (neg half) ≡ true → v ≡ mul binary64 half (power_near (add binary64 x one))
    → (v ≡ power_at x) × PowerClose x v
unfolding power_at
power_below x f h t s e =
    let b = subst T (sym s) tt in (
      rw (t, s) e,
      record {
        middle = λ u w. absurd (clash (lt x (neg half)) b w);
        above = λ u. absurd (not-both x h u b);
        below = λ u. rw e (below x f h s);
      },
    )

pub power-middle : {v : Float} (x : Float) → T (at_most 1 x) → lt half x ≡ false → lt x (neg half) ≡ false
    → v ≡ power_near x → (v ≡ power_at x) × PowerClose x v
unfolding power_at
power-middle x h t s e = (
  rw (t, s) e,
  record {
    middle = λ u w. rw e (middle x h t s);
    above = λ u. absurd (clash (lt half x) u (subst (λ (b : Bool). T (not b)) (sym t) tt));
    below = λ u. absurd (clash (lt x (neg half)) u (subst (λ (b : Bool). T (not b)) (sym s) tt));
  },
)
