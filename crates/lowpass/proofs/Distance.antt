-- How far a tap lies from the filter's middle. As (taps - 1) / 2 and k - center are whole and exact, the distance is at
-- most 64, and the argument of the sinc is in range. Assumes nothing.
use mathlib.Core.Path.{◌≡◌, refl, ap, ◌∙◌, subst}
use mathlib.Core.Bool.{true, false, ◌&&◌}
use Prim.Native.Nat.{ℕ, ◌-◌, ◌*◌, ◌/◌, ◌<◌}
use native.Mathlib.Omega.{arith}
use lib.Dec.{lit≤, lit<}
use lib.IntN.{pos, sub_ℕ}
use lib.Ieee.{Float, fin, binary64, mul, le}
use lib.Ieee.Bits.{is_true}
use lib.Ieee.Fits.{and_i}
use lib.Ieee.Exact.{HasValue}
use Rattle.constants.specs.Numbers.{two-f}
use Rattle.magnitude.specs.Bounds.{AtMost}
use Rattle.magnitude.proofs.Rounded.{whole-at-most}
use Rattle.magnitude.proofs.Operations.{mul-at-most}
use Rattle.magnitude.proofs.OrderAndBounds.{at-most-mono, at-most-le, at-most-ge}
use Rattle.magnitude.proofs.WholeFloats.{whole-difference, whole-quotient}
use Rattle.bessel.specs.Series.{series_of}
use Rattle.sinc_row.specs.Coefficient.{num, coefficient_of, coefficient_at}
use Rattle.sinc_row.proofs.Distance.{value, apart}
use Rattle.filter_settings.specs.Ranges.{design_ok}
use Rattle.filter_settings.proofs.InRange.{Taps, designed}
use Rattle.lowpass.specs.Design.{center_of, distance_of, kaiser_of, raw_of}

module _ (taps : ℕ) (t : Taps taps) where
  abbrev half : ℕ
  half = taps / 2

  pub center-is : center_of taps ≡ num half
  center-is =
      let e : taps - 1 ≡ half * 2 = omega (arith, t.uneven) in
      let whole : HasValue (num (taps - 1)) false (half * 2) 1 =
      subst (λ (n : ℕ). HasValue (num (taps - 1)) false n 1) e (value (taps - 1) (omega (arith, t.most))) in
      whole-quotient binary64 (num (taps - 1)) two-f half 2 (lit< tt) whole (refl, refl)

  pub distance-at-most : (k : ℕ) → k < taps → AtMost 64 (distance_of taps k)
  distance-at-most k l =
      rw (
        center-is,
        whole-difference binary64 (num k) (num half) k half (value k (omega (arith, t.most)))
            (value half (omega (arith, t.most, t.uneven))),
      )
      (whole-at-most binary64 64 (sub_ℕ k half) (lit≤ tt)
      (apart k half 64 (omega (arith, t.most, t.uneven)) (omega (arith, t.most, t.uneven))))

-- The argument of the sinc is in range, so that the coefficient is 000's.
module _ (taps : ℕ) (cutoff beta : Float) (ok : design_ok taps cutoff beta ≡ true) (k : ℕ) (l : k < taps) where
  asked : AtMost 65 (mul binary64 cutoff (distance_of taps k))
  asked =
      let d = designed taps cutoff beta ok in
      at-most-mono (mul binary64 cutoff (distance_of taps k)) (lit≤ tt)
      (mul-at-most binary64 1 64 cutoff (distance_of taps k) (lit≤ tt) d.unit
      (distance-at-most taps d.taps-good k l))

  coefficient-is : (w : Float) → coefficient_at cutoff (distance_of taps k) w
      ≡ coefficient_of cutoff (distance_of taps k) w
  coefficient-is w =
      let x = mul binary64 cutoff (distance_of taps k) in
      rw (is_true (le (fin true 65 (pos 0)) x && le x (fin false 65 (pos 0)))
      (and_i (le (fin true 65 (pos 0)) x) (le x (fin false 65 (pos 0)))
      (at-most-ge 65 x (fin true 65 (pos 0)) (refl, refl) asked)
      (at-most-le 65 x (fin false 65 (pos 0)) (refl, refl) asked)))

  -- From the three calls of a turn.
  pub made : (denom w r : Float) → denom ≡ series_of 24 beta
      → w ≡ kaiser_of (distance_of taps k) (center_of taps) beta denom
      → r ≡ coefficient_at cutoff (distance_of taps k) w → r ≡ raw_of taps cutoff beta k
  made denom w r d e h =
      h
      ∙ coefficient-is w
      ∙ ap (coefficient_of cutoff (distance_of taps k))
      (e ∙ ap (kaiser_of (distance_of taps k) (center_of taps) beta) d)
