-- W5d. A window computes I0 only at arguments from 0 to 20, where the tolerance ends the full mode. The square of
-- `normalized` is not negative, so that the argument of the root lies from 0 to 1, the root too, and beta is at most
-- 20. Assumes nothing.
use mathlib.Core.Path.{◌≡◌, refl}
use mathlib.Core.Bool.{Bool, true, false, cond, ◌&&◌}
use mathlib.Core.Logic.{dite}
use Prim.Native.Nat.{ℕ, zero, suc, ◌+◌, ◌-◌, ◌*◌, ◌/◌, ◌^◌, ◌≤◌, ◌<◌}
use native.Mathlib.Nat.{le_refl, lt_irrefl, lt_of_lt_of_le, lt_of_not-le, mul-pos, zero-lt-suc, zero-mul, one-mul}
use native.Mathlib.Nat.{add-mul, mul_comm, mul-le-mul_right, div-lt_iff_lt-mul}
use native.Mathlib.Decide.{dec_le}
use native.Mathlib.Omega.{arith}
use borrow.Author.Tests.{eq-eqb}
use lib.Dec.{T, eqb, lit≤, lit<}
use lib.IntN.{ℤ, pos}
use lib.Pow.{pow_pos}
use lib.Count.{count_trailing_zeros}
use lib.Ieee.{
  Float,
  nan,
  inf,
  fin,
  binary64,
  up,
  down,
  size,
  span,
  climb,
  odd,
  units,
  round,
  sum,
  add,
  sub,
  mul,
  div,
  lt,
  eq,
  le,
  is_nan,
}
use lib.Ieee.Fits.{and_l, and_r, up_pos, down_pos}
use lib.Ieee.Order.{round_mono}
use denote.Floats.{passes}
use Rattle.magnitude.specs.Bounds.{AtMost}
use Rattle.magnitude.proofs.Rounded.{whole-at-most}
use Rattle.magnitude.proofs.Operations.{sub-at-most, mul-at-most, div-at-most}
use Rattle.magnitude.proofs.WholeFloats.{whole-value}
use Rattle.interval.proofs.Signed.{ring, under, of-under}
use Rattle.interval.proofs.Between.{Between, between, point, difference-between}
use Rattle.interval.proofs.Products.{product-between, not_negative}
use Rattle.min_max.specs.Choice.{larger}
use Rattle.min_max.proofs.Choices.{chosen-keeps, larger-ge}
use Rattle.rounding.specs.Operations.{whole_root, more, rounded_root, root}
use Rattle.square_root.proofs.Squares.{whole-root, sq-mono, sq-lt-back}
use Rattle.bessel.specs.declared.Mode.TheVariants.{Full}
use Rattle.bessel.specs.Series.{ends_within, series_of}
use Rattle.bessel.specs.Modes.{sum_in}
use Rattle.bessel.proofs.Ending.{tolerance-ends, unlimited}
use Rattle.sinc_settings.specs.declared.Settings.{Settings}
use Rattle.sinc_settings.specs.Ranges.{taps_ok, phases_ok, cutoff_ok, beta_ok, settings_ok, zero-f, one-f, two-f}
use Rattle.sinc_settings.proofs.SettingsInRange.{Counts, counts, accepted}
use Rattle.sinc_row.specs.Coefficient.{num, normalized_of, argument_of}

abbrev twenty : Float
twenty = fin false 5 (pos 2)

abbrev nine : Float
nine = fin false 9 (pos 0)

-- ---- a square is not negative
positive : (x : Float) → Between zero-f (fin false 3 (pos 0)) x → Between zero-f nine (mul binary64 x x)
unfolding count_trailing_zeros size span climb odd units round mul lt eq le
positive x b = product-between binary64 tt b b refl refl tt tt

size-between : (m : ℕ) (e : ℤ) → AtMost 3 (fin false m e) → Between zero-f (fin false 3 (pos 0)) (fin false m e)
size-between m e h =
    let x = fin false m e in
    between tt tt (of-under zero-f x tt tt (omega arith)) (of-under x (fin false 3 (pos 0)) tt tt (omega arith))

square : (n : Float) → AtMost 3 n → Between zero-f nine (mul binary64 n n)
unfolding mul
square nan h = absurd h
square (inf s) h = absurd h
square (fin true m e) h = positive (fin false m e) (size-between m e h)
square (fin false m e) h = positive (fin false m e) (size-between m e h)

-- ---- a root from 0 to 1: counted in halves of the smallest value, of which 1 has 2 * l, its digits are at most as
-- many
at_most_one : (b : Bool) → cond b 0 1 ≤ 1
at_most_one true = lit≤ tt
at_most_one false = lit≤ tt

module _ (l n s : ℕ) (h : n ≤ 4 * l * l) (low_end : s * s ≤ n) where
  not-above : s ≤ 2 * l
  not-above =
      let u : 2 * l * (2 * l) ≡ 4 * l * l = simp ring (omega arith) in
      let v : (2 * l + 1) * (2 * l + 1) ≡ 4 * l * l + 4 * l + 1 = simp ring (omega arith) in
      let g = sq-lt-back s (2 * l + 1) (omega arith) in
      omega arith

  counted : 2 * s + more s n ≤ 4 * l
  counted =
      dite (dec_le (2 * l) s) whole (λ g. let b = at_most_one (eqb (s * s) n) in let k = lt_of_not-le g in omega arith)
    where
      whole : 2 * l ≤ s → 2 * s + more s n ≤ 4 * l
      whole g =
          let u : 2 * l * (2 * l) ≡ 4 * l * l = simp ring (omega arith) in
          let e : s * s ≡ n = omega (arith, sq-mono g) in
          rw (eq-eqb (s * s) n e) (omega (arith, not-above))

quotient : (a k c : ℕ) → 0 < c → a ≤ c → a * k / c ≤ k
quotient a k c C h =
    let g : a * k < (k + 1) * c = omega (arith, mul-le-mul_right k h, add-mul k 1 c, one-mul c, mul_comm c k) in
    let q = (div-lt_iff_lt-mul C).1 g in
    omega arith

nothing : round binary64 false 0 1 ≡ zero-f
unfolding count_trailing_zeros size span climb odd units round
nothing = refl

one-rounded : round binary64 false (4 * 2 ^ 1074) (4 * 2 ^ 1074) ≡ one-f
unfolding count_trailing_zeros size span climb odd units round
one-rounded = refl

nothing-below : (v d : ℕ) → 0 * d ≤ v * 1
nothing-below v d = omega (arith, zero-mul d)

unit : (n : ℕ) → n ≤ 4 * 2 ^ 1074 * 2 ^ 1074 → Between zero-f one-f (rounded_root binary64 n)
unfolding rounded_root
unit n h =
    let s = whole_root n in
    let v = 2 * s + more s n in
    let d = 4 * 2 ^ 1074 in
    let p : 0 < d = pow_pos 1076 in
    between tt tt
    (rw nothing at (round_mono binary64 0 1 v d (lit< tt) p (nothing-below v d)))
    (rw one-rounded at (round_mono binary64 v d d d p p
    (mul-le-mul_right d (counted (2 ^ 1074) n s h (whole-root n).0))))

root-unit : (x : Float) → Between zero-f one-f x → Between zero-f one-f (root binary64 x)
unfolding root
root-unit nan b = absurd b.above.second
root-unit (inf s) b = absurd b.above.second
root-unit (fin s zero e) b = b
root-unit (fin true (suc m) e) b =
    absurd (lt_irrefl 0 (lt_of_lt_of_le (mul-pos (zero-lt-suc m) (up_pos e))
    (omega (arith, not_negative _ tt b.above.order))))
root-unit (fin false (suc m) e) b =
    let h : suc m * up e ≤ down e = omega (arith, under (fin false (suc m) e) one-f tt tt b.below.order) in
    unit _ (quotient (suc m * up e) (4 * 2 ^ 1074 * 2 ^ 1074) (down e) (down_pos e) h)

-- ---- the arguments
module _ (s : Settings) (ok : settings_ok s ≡ true) (k : ℕ) (l : k < s.taps) where
  inside : Counts s.taps s.phases
  inside = counts s.taps s.phases (accepted s ok).counted

  normalized : AtMost 3 (normalized_of s.taps k)
  normalized =
      let c = inside in
      let top : AtMost (2 * k) (mul binary64 two-f (num k)) =
      mul-at-most binary64 2 k two-f (num k) (omega arith) (lit≤ tt)
      (whole-at-most binary64 k (pos k) (omega arith) (le_refl k)) in
      sub-at-most binary64 2 1 (div binary64 (mul binary64 two-f (num k)) (num (s.taps - 1))) one-f (lit≤ tt)
      (div-at-most binary64 (2 * k) 2 (mul binary64 two-f (num k)) (num (s.taps - 1)) false (s.taps - 1) 1 (lit≤ tt)
      (omega arith) (lit< tt) top (whole-value binary64 (pos (s.taps - 1)) (omega arith)) (omega arith))
      (lit≤ tt)

  beta : Between zero-f twenty s.beta
  beta =
      let t = passes (settings_ok s) ok in
      let b =
      and_r (cutoff_ok s.cutoff) (beta_ok s.beta)
      (and_r (taps_ok s.taps && phases_ok s.phases) (cutoff_ok s.cutoff && beta_ok s.beta) t) in
      between tt tt (and_l (le zero-f s.beta) (le s.beta twenty) b)
      (and_r (le zero-f s.beta) (le s.beta twenty) b)

  under-root : let n = normalized_of s.taps k in
      Between zero-f one-f (larger (sub binary64 one-f (mul binary64 n n)) zero-f)
  unfolding count_trailing_zeros size span climb odd units round sum add sub lt eq le is_nan larger
  under-root =
      let n = normalized_of s.taps k in
      let x = sub binary64 one-f (mul binary64 n n) in
      let d : Between (fin true 1 (pos 3)) one-f x =
      difference-between binary64 (point one-f tt) (square n normalized) refl refl tt tt in
      between tt tt (larger-ge x zero-f tt)
      (chosen-keeps (λ (y : Float). T (le y one-f)) (lt zero-f x) x zero-f d.below.order tt)

  argument : Between zero-f twenty (argument_of s k)
  unfolding count_trailing_zeros size span climb odd units round mul lt eq le
  argument = product-between binary64 tt beta (root-unit _ under-root) refl refl tt tt

  -- W5d. The tolerance ends both sums of a window, and so the full mode is the sum without a limit.
  pub window-argument : (T (le zero-f (argument_of s k))) × (T (le (argument_of s k) twenty))
  window-argument = (argument.above.order, argument.below.order)

  pub window-ends : (ends_within 41 (argument_of s k) ≡ true) × (ends_within 41 s.beta ≡ true)
  window-ends = (
    tolerance-ends (argument_of s k) argument.above.order argument.below.order,
    tolerance-ends s.beta beta.above.order beta.below.order,
  )

  pub window-unlimited : (m : ℕ)
      → (series_of (41 + m) (argument_of s k) ≡ sum_in Full (argument_of s k))
      × (series_of (41 + m) s.beta ≡ sum_in Full s.beta)
  window-unlimited m = (
    unlimited m (argument_of s k) argument.above.order argument.below.order,
    unlimited m s.beta beta.above.order beta.below.order,
  )
