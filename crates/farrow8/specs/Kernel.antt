-- K3, K4, K6. 000's Farrow8: a sum for each column of the table, then fused steps in the fraction, in 000's order.
-- Definitions only.
use Rattle.std.specs.Prelude.{ℕ, cond, List, [], ◌∷◌, ℤ, pos, ◌+ℤ◌, ◌-ℤ◌, Float}
use Rattle.std.specs.Float.{binary64}
use Rattle.constants.specs.Numbers.{zero-f}
use Rattle.rounding.specs.Operations.{fused}
use Rattle.ring.specs.Taps.{tap_of}
use Rattle.ring.specs.Places.{position_ok}
use Rattle.integer_part.specs.Parts.{floor_of, fraction_of}
use Rattle.farrow8_powers.specs.Sums.{dot_of, powers_of}
use Rattle.farrow8_powers.specs.declared.Powers.{Powers}

-- One step: value * mu + the sum of the next power, rounded once.
abbrev pub step : Float → Float → Float → Float
step mu value next = fused binary64 value mu next

-- Horner's rule over the sums of the powers, from the seventh power down to the sample itself.
abbrev pub horner : Powers → Float → Float
horner s mu =
    step mu (step mu (step mu (step mu (step mu (step mu (step mu s.s7 s.s6) s.s5) s.s4) s.s3) s.s2)
    s.s1)
    s.s0

unfoldable pub polynomial_of : List Float → Float → Float
unfolding dot_of
polynomial_of x mu = horner (powers_of x) mu

-- The eight taps from integer - 3 to integer + 4.
abbrev pub taps_at : List Float → ℕ → ℤ → List Float
taps_at xs count i =
    tap_of xs count (i -ℤ pos 3) ∷ tap_of xs count (i -ℤ pos 2) ∷ tap_of xs count (i -ℤ pos 1) ∷ tap_of xs count i
    ∷ tap_of xs count (i +ℤ pos 1)
    ∷ tap_of xs count (i +ℤ pos 2) ∷ tap_of xs count (i +ℤ pos 3) ∷ tap_of xs count (i +ℤ pos 4) ∷ []

unfoldable pub farrow_at : List Float → ℕ → Float → Float
unfolding polynomial_of
farrow_at xs count p = polynomial_of (taps_at xs count (floor_of p)) (fraction_of p)

abbrev pub read_of : List Float → ℕ → Float → Float
read_of xs count p = cond (position_ok p) (farrow_at xs count p) zero-f
