-- K3. The blend lies from 0 to 1, both included: the position among the phases lies from the phase to the next, and
-- rounding keeps the order. Assumes nothing.
use mathlib.Core.Path.{◌≡◌, refl, sym, ◌∙◌, ap}
use mathlib.Core.Bool.{Bool, true, false, true≢false}
use Prim.Native.Nat.{ℕ, ◌+◌, ◌-◌, ◌*◌, ◌/◌, ◌^◌, ◌≤◌, ◌<◌, min}
use native.Mathlib.Nat.{add-zero, mul-one, one-mul, zero-mul, add-mul, mul_right_comm, mul-le-mul_right, le_of_lt}
use native.Mathlib.Nat.{min-eq_left, min-eq_right, min-le_left, min-le_right}
use native.Mathlib.Omega.{arith}
use borrow.Author.Tests.{le-ltb, leb-true, leb-false}
use lib.Dec.{T, leb, lit≤}
use lib.IntN.{ℤ, pos}
use lib.Ieee.{Float, nan, inf, fin, binary64, up, down, le, sub, mul, of_int, of_bits}
use lib.Ieee.Bits.{is_true}
use lib.Ieee.Exact.{HasValue}
use lib.Ieee.Fits.{down_pos}
use lib.Ieee.Scale.{finite}
use Rattle.answer.specs.Answers.{zero-f}
use Rattle.integer_part.proofs.Floors.{quotient-around}
use Rattle.integer_part.proofs.Fractions.{fraction-unit}
use Rattle.interval.proofs.Signed.{under, of-under}
use Rattle.interval.proofs.Between.{Between, between, point, difference-between}
use Rattle.interval.proofs.Products.{product-between}
use Rattle.magnitude.specs.Bounds.{AtMost}
use Rattle.magnitude.proofs.OrderAndBounds.{at-most-mono, at-most-finite, between-at-most}
use Rattle.magnitude.proofs.Rounded.{whole-at-most}
use Rattle.magnitude.proofs.WholeFloats.{whole-value, whole-difference, whole-product}
use Rattle.sinc_phases.proofs.CutToTop.{held}
use Rattle.sinc_phases.specs.Phases.{num, cut_to, phase_position, phase_of, blend_of}

abbrev one : Float
one = fin false 1 (pos 0)

-- ---- a whole number compared with m * 2 ^ e
not-above : (m : ℕ) (e : ℤ) (y : Float) (n : ℕ) → HasValue y false n 1 → n * down e ≤ m * up e
    → T (le y (fin false m e))
not-above m e nan n v h = absurd v
not-above m e (inf s) n v h = absurd v
not-above m e (fin true k d) n v h = absurd (true≢false v.0)
not-above m e (fin false k d) n v h =
    of-under (fin false k d) (fin false m e) tt tt
    (rw (sym (mul-one (k * up d)) ∙ v.1, mul_right_comm n (down d) (down e))
    (omega (arith, mul-le-mul_right (down d) h)))

not-below : (m : ℕ) (e : ℤ) (y : Float) (n : ℕ) → HasValue y false n 1 → m * up e ≤ n * down e
    → T (le (fin false m e) y)
not-below m e nan n v h = absurd v
not-below m e (inf s) n v h = absurd v
not-below m e (fin true k d) n v h = absurd (true≢false v.0)
not-below m e (fin false k d) n v h =
    of-under (fin false m e) (fin false k d) tt tt
    (rw (sym (mul-one (k * up d)) ∙ v.1, mul_right_comm n (down d) (down e))
    (omega (arith, mul-le-mul_right (down d) h)))

whole-finite : (n : ℕ) → n ≤ 2 ^ 53 → T (finite (num n))
whole-finite n h = at-most-finite n (num n) (whole-at-most binary64 n (pos n) h (omega arith))

-- ---- a number from 0 to top + 1 lies between its whole part, limited to top, and the next
next_up : (a d top : ℕ) → 0 < d → a ≤ (top + 1) * d → a ≤ (min (a / d) top + 1) * d
next_up a d top D h = go (leb (a / d) top) refl
  where
    go : (t : Bool) → leb (a / d) top ≡ t → a ≤ (min (a / d) top + 1) * d
    go true e =
        let r = quotient-around a d D in
        rw (min-eq_left (leb-true (a / d) top e)) (omega (arith, add-mul (a / d) 1 d, one-mul d))
    go false e = rw (min-eq_right (le_of_lt (leb-false (a / d) top e))) h

cut-between : (top : ℕ) (x : Float) → top + 1 ≤ 2 ^ 53 → T (le zero-f x) → AtMost (top + 1) x
    → Between (num (cut_to top x)) (num (cut_to top x + 1)) x
unfolding cut_to of_int
cut-between top nan t z h = absurd h
cut-between top (inf s) t z h = absurd h
cut-between top (fin true m e) t z h =
    let w = under zero-f (fin true m e) tt tt z in
    between tt tt z (of-under (fin true m e) (num 1) tt tt (omega arith))
cut-between top (fin false m e) t z h =
    let q = m * up e / down e in
    let n = min q top in
    let l : n ≤ q = min-le_left q top in
    let r = quotient-around (m * up e) (down e) (down_pos e) in
    let k : n + 1 ≤ 2 ^ 53 = omega (arith, min-le_right q top) in
    between (whole-finite n (omega arith)) (whole-finite (n + 1) k)
    (not-above m e (num n) n (whole-value binary64 (pos n) (omega arith)) (omega (arith, mul-le-mul_right (down e) l)))
    (not-below m e (num (n + 1)) (n + 1) (whole-value binary64 (pos (n + 1)) k)
    (next_up (m * up e) (down e) top (down_pos e) h))

-- ---- the position among the phases, and its distance from the phase
pub whole_apart : (n k : ℕ) → n + k ≤ 2 ^ 53 → sub binary64 (num (n + k)) (num n) ≡ num k
whole_apart n k h =
    whole-difference binary64 (num (n + k)) (num n) (n + k) n (whole-value binary64 (pos (n + k)) h)
    (whole-value binary64 (pos n) (omega arith))
    ∙ rw (le-ltb (n + k) n (omega arith)) (ap num (omega arith))

module _ (p : Float) (phases : ℕ) (some : 1 ≤ phases) (few : phases ≤ 4096) (near : AtMost (2 ^ 36) p) where
  number : T (finite (num phases))
  number = whole-finite phases (omega arith)

  not_negative : le zero-f (num phases) ≡ true
  not_negative =
      is_true _ (not-below 0 (pos 0) (num phases) phases (whole-value binary64 (pos phases) (omega arith))
      (omega arith))

  times : (a : ℕ) (x : Float) → HasValue x false a 1 → mul binary64 x (num phases) ≡ num (a * phases)
  times a x v = whole-product binary64 x (num phases) a phases v (whole-value binary64 (pos phases) (omega arith))

  nought : num (0 * phases) ≡ zero-f
  unfolding of_int
  nought = ap num (zero-mul phases)

  among : Between zero-f (num phases) (phase_position p phases)
  unfolding of_bits le
  among =
      let u = fraction-unit p (at-most-mono p (lit≤ tt) near) in
      product-between binary64 tt (between {low = zero-f} {high = one} tt tt u.0 u.1) (point (num phases) number)
      (rw not_negative (times 0 zero-f (refl, refl) ∙ nought))
      (rw not_negative (times 1 one (refl, refl) ∙ ap num (one-mul phases))) tt number

  pub from-phase : Between (num (phase_of p phases)) (num (phase_of p phases + 1)) (phase_position p phases)
  from-phase =
      let top : phases - 1 + 1 ≡ phases = omega arith in
      cut-between (phases - 1) (phase_position p phases) (omega arith) among.above.order
      (rw top (between-at-most phases zero-f (phase_position p phases) (num phases) (omega arith)
      (whole-at-most binary64 phases (pos phases) (omega arith) (omega arith)) among.above.order
      among.below.order))

  pub blend-unit : Between zero-f one (blend_of p phases)
  unfolding of_int
  blend-unit =
      let n = phase_of p phases in
      let l : n ≤ 4096 = omega (arith, held (phases - 1) (phase_position p phases)) in
      difference-between binary64 from-phase (point (num n) (whole-finite n (omega arith)))
      (ap (λ (m : ℕ). sub binary64 (num m) (num n)) (sym (add-zero n)) ∙ whole_apart n 0 (omega arith))
      (whole_apart n 1 (omega arith)) tt tt
