-- The refusal numbers, 0 for none, of readers and table builders, as functions of plain numbers. Definitions only.
use Rattle.std.specs.Prelude.{ℕ, Bool, true, ◌&&◌, cond, Float}
use Rattle.std.specs.Float.Ieee.{size, le, lt, sub, div, is_nan}
use Rattle.ring.specs.Length.{length_for}
use Rattle.ring.specs.Places.{position_ok}
use Rattle.lagrange.specs.Kernel as lagrange
use Rattle.sinc_settings.specs.Refusals.{table_length, for_rate, rate_verdict}
use Rattle.sinc_settings.specs.Refusals as table
use Rattle.bank_choice.specs.Rates.{ceiling_of, steps_of}
use Rattle.variable_delay.specs.Reader.{verdict}
use Rattle.variable_delay.specs.Opening as opening
use Rattle.answer_parts.specs.States.{state_of}
use Rattle.quality_fade.specs.Fade.{place_ok}
use Rattle.returning_fade.specs.Rules.{returning_ok}
use Rattle.quality_variable_delay.specs.Bank.{due_of}
use Rattle.quality_codes.specs.Codes.{decoded}
use Rattle.quality_codes.specs.Codes as codes
use Rattle.quality_codes.specs.Calls.{renewed_of}
use Rattle.quality_codes.specs.declared.Coded.{Coded}
use Rattle.range_ends.specs.Floats.{one}

-- A call of a delay reader over a ring of `len` elements. `own` says that the kernel's settings are in range, `lent`
-- that its table has its length.
unfoldable pub called_by : Bool → Bool → ℕ → ℕ → ℕ → ℕ → Float → Float → ℕ
unfolding length_for size le
called_by own lent maximum margin len accepted input delay =
    verdict own lent (state_of maximum margin accepted) len input delay

abbrev pub called : ℕ → ℕ → ℕ → ℕ → Float → Float → ℕ
called = called_by true true

-- The opening and the reset of a delay reader.
unfoldable pub opened : ℕ → ℕ → ℕ → ℕ
unfolding length_for size
opened maximum margin len = opening.number_of (opening.opened_of maximum margin len)

unfoldable pub restarted : ℕ → ℕ → ℕ → ℕ → ℕ
unfolding length_for size
restarted maximum margin len accepted = opening.number_of (opening.reset_of (state_of maximum margin accepted) len)

-- A call of Lagrange's reader with a number of taps, and a reading of a slice by it.
abbrev pub lagrange_called : ℕ → ℕ
lagrange_called taps = called_by (lagrange.taps_ok taps) true 0 0 8 0 one one

abbrev pub lagrange_sampled : ℕ → Float → ℕ
lagrange_sampled taps position = cond (lagrange.taps_ok taps && position_ok position) 0 1

-- A table of `len` elements, built from settings and, with 4 taps and 2 phases, for a maximum rate; then each with the
-- length that its settings need.
unfoldable pub built_in : ℕ → ℕ → Float → Float → ℕ → ℕ
unfolding le
built_in taps phases cutoff beta len =
    table.verdict (record { taps = taps; phases = phases; cutoff = cutoff; beta = beta }) len

abbrev pub built : ℕ → ℕ → Float → Float → ℕ
built taps phases cutoff beta = built_in taps phases cutoff beta (table_length taps phases)

unfoldable pub built_for_in : Float → Float → ℕ → ℕ
unfolding le lt div
built_for_in max-rate passband len = rate_verdict (for_rate 4 2 max-rate passband one) max-rate passband len

abbrev pub built_for : Float → Float → ℕ
built_for max-rate passband = built_for_in max-rate passband 12

-- A call of the quality reader, to which a bank of `lent` f32 for the maximum rate `max-rate` is lent, and its reset.
-- The settings 0 and 0 need a ring of 8, and the rate 1 a bank of 1081648.
unfoldable pub asked : Coded → ℕ → ℕ → Float → Float → Float → Float → ℕ
unfolding length_for place_ok returning_ok steps_of ceiling_of size is_nan le sub div
asked state len lent max-rate input delay playback-rate =
    due_of lent max-rate (decoded state) len input delay playback-rate

unfoldable pub renewed : Coded → ℕ → ℕ
unfolding length_for place_ok returning_ok size
renewed state len = (renewed_of true state len).number

-- A state by the ported rule, with the direction onwards.
abbrev pub ported_state : ℕ → ℕ → ℕ → ℕ → ℕ → ℕ → ℕ → Coded
ported_state maximum margin accepted current target place crossfade =
    codes.state_of maximum margin accepted current target place crossfade 0 0

-- A call at the ends of a fade, all else in range; and by the second rule, in a direction.
abbrev pub faded : ℕ → ℕ → ℕ → ℕ → ℕ
faded current target place crossfade =
    asked (ported_state 0 0 0 current target place crossfade) 8 1081648 one one one one

abbrev pub returned : ℕ → ℕ → ℕ → ℕ → ℕ → ℕ
returned direction current target place crossfade =
    asked (codes.state_of 0 0 0 current target place crossfade 1 direction) 8 1081648 one one one one
