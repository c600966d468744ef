-- A reset and an opening, from the contracts of the calls within them. Assumes nothing.
use mathlib.Core.Path.{◌≡◌, refl}
use mathlib.Core.Bool.{Bool, true, false, ◌&&◌}
use mathlib.Core.List.{List}
use Prim.Native.Nat.{ℕ, zero, suc}
use lib.Count.{count_trailing_zeros}
use lib.Dec.{eqb}
use lib.IntN.{negsuc}
use lib.ListN.{length}
use lib.Ieee.{Float, fin, binary64, size, span, climb, odd, units, round, lt, eq, le}
use lib.Ieee.Bits.{is_true}
use lib.Ieee.Fits.{and_l, and_r}
use Rattle.answer.proofs.Passed.{passed}
use Rattle.ring.specs.Length.{zeros}
use Rattle.variable_delay.specs.Opening.{cleared_by}
use Rattle.filter_settings.specs.Ranges.{design_ok}
use Rattle.lowpass.specs.Design.{designed}
use Rattle.fir_filter.specs.Filters.{kept_in}
use Rattle.oversampled_refusals.specs.Outer.{state_ok}
use Rattle.cascaded_delay.specs.Reader.{ring_ok, outer_of}
use Rattle.cascaded_delay.specs.Opening.{fresh, renew_due, opened_by, ten-f, halfband_of, last_of, written_by}
use Rattle.cascaded_delay.specs.declared.CascadedOversampledVariableDelay4x.{CascadedOversampledVariableDelay4x}
use Rattle.cascaded_delay.specs.declared.Opened.TheVariants.{Reader, Refused}

-- ---- refused; w is the number as the code has it
pub not_opened : (w : ℕ) {v : ℕ} → w ≡ v → (w ≡ 0 → ⊥) → (d : CascadedOversampledVariableDelay4x)
    → Refused w ≡ opened_by v d
not_opened zero e h d = absurd (h refl)
not_opened (suc k) e h d = rw (← e)

pub not_written : (w : ℕ) {v : ℕ} → w ≡ v → (w ≡ 0 → ⊥) → (made xs : List Float) → xs ≡ written_by v made xs
not_written zero e h made xs = absurd (h refl)
not_written (suc k) e h made xs = rw (← e)

-- ---- anew
pub opened : {v : ℕ} → v ≡ 0 → (d : CascadedOversampledVariableDelay4x)
    → Reader (fresh d.maximum d.margin) ≡ opened_by v d
opened e d = rw e

pub cleared : {v : ℕ} → v ≡ 0 → (xs : List Float) {ys : List Float} → ys ≡ zeros (length xs) → ys ≡ cleared_by v xs
cleared e xs h = rw e h

-- Both designs are in range.
at-half : design_ok 65 (fin false 1 (negsuc 0)) ten-f ≡ true
unfolding count_trailing_zeros size span climb odd units round lt eq le
at-half = refl

at_last : design_ok 129 (round binary64 false 45 100) ten-f ≡ true
unfolding count_trailing_zeros size span climb odd units round lt eq le
at_last = refl

-- The lengths of both filters' slices, from an opening that is not refused.
pub filters-lent : (d : CascadedOversampledVariableDelay4x) (a b c : Bool) → renew_due d (a && b && c) ≡ 0
    → (a ≡ true) × (b ≡ true)
filters-lent d a b c none =
    let p = passed (ring_ok d) (a && b && c) (state_ok 4 (outer_of d)) true true true true true none in
    let f = and_l (a && b) c p.p2 in
    (is_true a (and_l a b f), is_true b (and_r a b f))

module _ {v : ℕ} (none : v ≡ 0) (xs : List Float) {ys zs : List Float} where
  pub halfband-is : eqb (length xs) 65 ≡ true → ys ≡ designed 65 (fin false 1 (negsuc 0)) ten-f xs → zs ≡ kept_in ys
      → zs ≡ written_by v halfband_of xs
  unfolding halfband_of
  halfband-is l y z = rw (none, z, y, at-half, l)

  pub last-is : eqb (length xs) 129 ≡ true → ys ≡ designed 129 (round binary64 false 45 100) ten-f xs → zs ≡ kept_in ys
      → zs ≡ written_by v last_of xs
  unfolding last_of
  last-is l y z = rw (none, z, y, at_last, l)
