-- A reset and an opening, from the contracts of the calls within them: refused, everything stays as it was; otherwise
-- all begins anew, and the coefficients are those of 000's design. Assumes nothing.
use Rattle.std.proofs.Common.{◌≡◌, ℕ, zero, suc, ◌*◌, true, false, ◌&&◌, eqb, List, length, refl, ⊎_elim, eqb→eq}
use Rattle.std.proofs.Common.{eq-eqb}
use lib.Count.{count_trailing_zeros}
use lib.Ieee.{Float, binary64, size, span, climb, odd, units, round, div, lt, eq, le, of_int}
use lib.Ieee.Bits.{is_true}
use lib.Ieee.Fits.{and_l, and_r}
use Rattle.answer.proofs.Passed.{passed}
use Rattle.ring.specs.Length.{zeros}
use Rattle.ring.specs.Length as ring
use Rattle.variable_delay.specs.Opening.{cleared_by}
use Rattle.filter_settings.specs.Ranges.{factor_ok, taps_ok, cutoff_ok, design_verdict}
use Rattle.sinc_settings.specs.Ranges.{beta_ok}
use Rattle.lowpass.specs.Design.{designed}
use Rattle.fir_filter.specs.Filters.{kept_in}
use Rattle.high_delay.specs.Between.{num}
use Rattle.oversampled_refusals.specs.Outer.{state_ok}
use Rattle.oversampled_refusals.proofs.Factors.{two-or-four}
use Rattle.oversampled_delay.specs.Reader.{settings_ok, held_ok, outer_of}
use Rattle.oversampled_delay.specs.Opening.{fresh, open_due, opened_by, cutoff_of, ten-f, coefficients_of, designed_by}
use Rattle.oversampled_delay.specs.declared.OversampledVariableDelay.{OversampledVariableDelay}
use Rattle.oversampled_delay.specs.declared.Opened.TheVariants.{Reader, Refused}

-- ---- refused; w is the number as the code has it
pub not_opened : (w : ℕ) {v : ℕ} → w ≡ v → (w ≡ 0 → ⊥) → (d : OversampledVariableDelay) → Refused w ≡ opened_by v d
not_opened zero e h d = absurd (h refl)
not_opened (suc k) e h d = rw (← e)

pub not-designed : (w : ℕ) {v : ℕ} → w ≡ v → (w ≡ 0 → ⊥) → (d : OversampledVariableDelay) (xs : List Float)
    → xs ≡ designed_by v d xs
not-designed zero e h d xs = absurd (h refl)
not-designed (suc k) e h d xs = rw (← e)

-- ---- anew
pub opened : {v : ℕ} → v ≡ 0 → (d : OversampledVariableDelay)
    → Reader (fresh d.maximum d.margin d.factor d.taps) ≡ opened_by v d
opened e d = rw e

pub cleared : {v : ℕ} → v ≡ 0 → (xs : List Float) {ys : List Float} → ys ≡ zeros (length xs) → ys ≡ cleared_by v xs
cleared e xs h = rw e h

-- The cutoff of either factor is in design_lowpass's range, and beta is 10.
at-two : cutoff_ok (cutoff_of 2) && beta_ok ten-f ≡ true
unfolding count_trailing_zeros size span climb odd units round div lt eq le of_int
at-two = refl

at-four : cutoff_ok (cutoff_of 4) && beta_ok ten-f ≡ true
unfolding count_trailing_zeros size span climb odd units round div lt eq le of_int
at-four = refl

suits : (factor : ℕ) → factor_ok factor ≡ true → cutoff_ok (cutoff_of factor) && beta_ok ten-f ≡ true
suits factor f =
    ⊎_elim (λ (e : factor ≡ 2). rw e at-two) (λ (e : factor ≡ 4). rw e at-four) (two-or-four factor f)

module _ (maximum margin factor taps : ℕ) (xs : List Float) (up down inner : ℕ)
    (none : open_due (fresh maximum margin factor taps) (length xs) up down inner ≡ 0) where
  abbrev d : OversampledVariableDelay
  d = fresh maximum margin factor taps

  in-design : design_verdict taps (cutoff_of factor) ten-f (length xs) ≡ 0
  in-design =
      let s = taps_ok taps in
      let r = ring.settings_ok (factor * maximum) margin in
      let c = eqb (length xs) taps in
      let h = held_ok d up down inner in
      let p =
      passed (factor_ok factor && settings_ok d) (c && h) (state_ok factor (outer_of d)) true true true true true none
      in
      let f = is_true (factor_ok factor) (and_l (factor_ok factor) (settings_ok d) p.p1) in
      let t = is_true s (and_l s r (and_r (factor_ok factor) (settings_ok d) p.p1)) in
      let l = eqb→eq (length xs) taps (and_l c h p.p2) in
      rw (t, suits factor f, eq-eqb (length xs) taps l)

  -- ys is what design_lowpass left, zs what is kept of it.
  pub design-is : {rate : Float} {ys zs : List Float} → rate ≡ num factor
      → ys ≡ designed taps (div binary64 (round binary64 false 9 10) rate) ten-f xs → zs ≡ kept_in ys
      → zs ≡ designed_by (open_due (fresh maximum margin factor taps) (length xs) up down inner) d xs
  unfolding coefficients_of
  design-is r y z = rw (none, z, y, r, in-design)
