-- W11j. Opening an oversampled reader over what is lent to it, and resetting one. Both zero the histories, the inner
-- ring, both counts and the previous delay; opening also designs the filters. Definitions only.
use Rattle.std.specs.Prelude.{ℕ, zero, suc, false, ◌&&◌, List, pos, ◌==◌, Float}
use Rattle.std.specs.Float.{fin, binary64}
use Rattle.std.specs.Float.Ieee.{round, div}
use Rattle.constants.specs.Numbers.{zero-f}
use Rattle.high_delay.specs.Between.{num}
use Rattle.lowpass.specs.Design.{lowpass_of}
use Rattle.fir_filter.specs.Filters.{kept_in}
use Rattle.oversampled_refusals.specs.Outer.{reset_verdict}
use Rattle.oversampled_delay.specs.Reader.{settings_ok, held_ok, outer_of}
use Rattle.oversampled_delay.specs.declared.OversampledVariableDelay.{OversampledVariableDelay}
use Rattle.oversampled_delay.specs.declared.Opened.{Opened}
use Rattle.oversampled_delay.specs.declared.Opened.TheVariants.{Reader, Refused}

-- The state of a reader that has accepted nothing.
abbrev pub fresh : ℕ → ℕ → ℕ → ℕ → OversampledVariableDelay
fresh maximum margin factor taps = record {
  maximum = maximum;
  margin = margin;
  factor = factor;
  taps = taps;
  accepted = 0;
  inner = 0;
  previous = zero-f;
}

-- N1 to N3. The number of the refusal of a reset, from the lengths of what is lent, 0 for none. A full reader may be
-- reset.
abbrev pub reset_due : OversampledVariableDelay → ℕ → ℕ → ℕ → ℕ
reset_due d up down ring = reset_verdict (settings_ok d) (held_ok d up down ring) d.factor (outer_of d)

-- The same of an opening, which is lent the coefficients too.
abbrev pub open_due : OversampledVariableDelay → ℕ → ℕ → ℕ → ℕ → ℕ
open_due d coefficients up down ring =
    reset_verdict (settings_ok d) (coefficients == d.taps && held_ok d up down ring) d.factor (outer_of d)

-- D1c. The reader that is left for each number.
abbrev pub opened_by : ℕ → OversampledVariableDelay → Opened
opened_by zero d = Reader (fresh d.maximum d.margin d.factor d.taps)
opened_by (suc k) d = Refused (suc k)

-- 000's `0.9 / FACTOR as f64`: ten percent of the host's band are left for the transition.
abbrev pub cutoff_of : ℕ → Float
cutoff_of factor = div binary64 (round binary64 false 9 10) (num factor)

abbrev pub ten-f : Float
ten-f = fin false 5 (pos 1)

-- Both filters have these coefficients, without those that 000 leaves out.
unfoldable pub coefficients_of : ℕ → ℕ → List Float
coefficients_of taps factor = kept_in (lowpass_of taps (cutoff_of factor) ten-f)

-- The coefficients' slice afterwards; a refusal leaves it as it was.
abbrev pub designed_by : ℕ → OversampledVariableDelay → List Float → List Float
designed_by zero d xs = coefficients_of d.taps d.factor
designed_by (suc k) d xs = xs
