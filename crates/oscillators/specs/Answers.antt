-- G4, G6, G7, N1. 001's functions with the ranges of document 01: a value, or refusal 1 if an argument is out of range.
-- Definitions only.
use Rattle.std.specs.Prelude.{Bool, true, ◌&&◌, cond, List, [], ◌∷◌, Float, Result, Ok, Err}
use Rattle.refusal.specs.declared.Refusal.{Refusal}
use Rattle.refusal.specs.declared.Refusal.TheVariants.{Setting}
use Rattle.std.specs.Float.Ieee.Scale.{finite}
use Rattle.oscillator_ranges.specs.Ranges.{rate_ok, depth_ok, phase_ok, cycle_ok, sample_rate_ok, minimum_rate_ok}
use Rattle.oscillator_arithmetic.specs.Arithmetic.{speed_delta, advance_phase, shape_primitive, oscillator_delay}
use Rattle.oscillator_arithmetic.specs.Arithmetic.{excursion}
use Rattle.oscillator_arithmetic.specs.Arithmetic.{rate_delta}

-- The value, or refusal 1 if an argument is out of range.
unfoldable pub answered_by : Bool → Float → Result Float Refusal
answered_by ok value = cond ok (Ok value) (Err Setting)

abbrev pub speed_delta_of : Float → Result Float Refusal
speed_delta_of depth-cents = answered_by (depth_ok depth-cents) (speed_delta depth-cents)

abbrev pub advance_phase_of : Float → Float → Float → Result Float Refusal
advance_phase_of phase rate-hz sample-rate =
    answered_by (cycle_ok phase && (rate_ok rate-hz && sample_rate_ok sample-rate))
    (advance_phase phase rate-hz sample-rate)

-- The shape is clamped, so that only a NaN or an infinity is refused.
abbrev pub shape_primitive_of : Float → Float → Result Float Refusal
shape_primitive_of phase shape = answered_by (phase_ok phase && finite shape) (shape_primitive phase shape)

abbrev pub oscillator_delay_of : Float → Float → Float → Float → Float → Result Float Refusal
oscillator_delay_of phase rate-hz depth-cents shape sample-rate =
    answered_by
    ((phase_ok phase && finite shape) && ((rate_ok rate-hz && depth_ok depth-cents) && sample_rate_ok sample-rate))
    (oscillator_delay phase rate-hz depth-cents shape sample-rate)

abbrev pub excursion_of : Float → Float → Float → Result Float Refusal
excursion_of max-depth-cents min-rate-hz sample-rate =
    answered_by (depth_ok max-depth-cents && (minimum_rate_ok min-rate-hz && sample_rate_ok sample-rate))
    (excursion max-depth-cents min-rate-hz sample-rate)

-- Every depth of the list is in its range.
unfoldable pub depths_ok : List Float → Bool
depths_ok [] = true
depths_ok (depth-cents ∷ rest) = depth_ok depth-cents && depths_ok rest

abbrev pub rate_delta_of : List Float → Result Float Refusal
rate_delta_of depths-cents = answered_by (depths_ok depths-cents) (rate_delta depths-cents)
