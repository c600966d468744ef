-- W11j. Opening a cascaded reader over what is lent to it, and resetting one; and its latency. Definitions only.
use Rattle.std.specs.Prelude.{ℕ, zero, suc, Bool, false, List, pos, negsuc, Float}
use Rattle.std.specs.Float.{fin, binary64}
use Rattle.std.specs.Float.Ieee.{round}
use Rattle.constants.specs.Numbers.{zero-f}
use Rattle.lowpass.specs.Design.{lowpass_of}
use Rattle.fir_filter.specs.Filters.{kept_in}
use Rattle.oversampled_refusals.specs.Outer.{reset_verdict}
use Rattle.cascaded_delay.specs.Reader.{ring_ok, outer_of}
use Rattle.cascaded_delay.specs.declared.CascadedOversampledVariableDelay4x.{CascadedOversampledVariableDelay4x}
use Rattle.cascaded_delay.specs.declared.Opened.{Opened}
use Rattle.cascaded_delay.specs.declared.Opened.TheVariants.{Reader, Refused}

-- The latency of both stages in host samples: 64.0.
abbrev pub latency : Float
latency = fin false 1 (pos 6)

-- The state of a reader that has accepted nothing.
abbrev pub fresh : ℕ → ℕ → CascadedOversampledVariableDelay4x
fresh maximum margin =
    record { maximum = maximum; margin = margin; accepted = 0; inner = 0; previous = zero-f }

-- N1 to N3. The number of the refusal, 0 for none; `lent` says that every lent slice has its length.
abbrev pub renew_due : CascadedOversampledVariableDelay4x → Bool → ℕ
renew_due d lent = reset_verdict (ring_ok d) lent 4 (outer_of d)

-- D1c. The reader that is left for each number.
abbrev pub opened_by : ℕ → CascadedOversampledVariableDelay4x → Opened
opened_by zero d = Reader (fresh d.maximum d.margin)
opened_by (suc k) d = Refused (suc k)

abbrev pub ten-f : Float
ten-f = fin false 5 (pos 1)

-- 000's `design_lowpass(65, 0.5, 10.0)` and `design_lowpass(129, 0.45, 10.0)`, without what 000 leaves out.
unfoldable pub halfband_of : List Float
halfband_of = kept_in (lowpass_of 65 (fin false 1 (negsuc 0)) ten-f)

unfoldable pub last_of : List Float
last_of = kept_in (lowpass_of 129 (round binary64 false 45 100) ten-f)

-- A lent slice for each number: a refusal leaves it as it was.
abbrev pub written_by : ℕ → List Float → List Float → List Float
written_by zero made xs = made
written_by (suc k) made xs = xs
