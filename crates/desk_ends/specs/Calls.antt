-- The refusal number of a desk's call, 0 for none, as a function of plain numbers. Definitions only.
use Rattle.std.specs.Prelude.{ℕ, List, Float}
use Rattle.std.specs.Float.Ieee.{size, is_nan, add, sub, mul, div, lt, le, eq, of_int}
use Rattle.rounding.specs.Operations.{narrowed}
use Rattle.min_max.specs.Choice.{clamped}
use Rattle.ring.specs.Length.{length_for}
use Rattle.bank_choice.specs.Rates.{ceiling_of, steps_of, rate_of}
use Rattle.bank_choice.specs.Choosing.{first_from, blend_of, chosen_of}
use Rattle.quality_fade.specs.Fade.{place_ok}
use Rattle.returning_fade.specs.Rules.{returning_ok}
use Rattle.bessel.specs.declared.Mode.TheVariants.{Ported}
use Rattle.quality_codes.specs.Codes.{state_of, decoded}
use Rattle.room_marks.specs.declared.Desk.TheVariants.{One}
use Rattle.room_marks.specs.Slots.{some, room_ok}
use Rattle.set_room.specs.Room.{room_of}
use Rattle.desk_delay.specs.Desk.{caller_of, desk_verdict}

-- A call of desk one in the ported mode, plain in Draft, with the settings 0 and 0, which need a ring of 8: over slots,
-- rates and marks, for a maximum rate, with a count, an input, a delay and a rate.
unfoldable pub due : List Float → List Float → List ℕ → Float → ℕ → Float → Float → Float → ℕ
unfolding some room_ok chosen_of first_from blend_of steps_of ceiling_of rate_of clamped narrowed length_for place_ok
    returning_ok size is_nan add sub mul div lt le eq of_int
due slots rates marks top accepted input delay rate =
    desk_verdict (caller_of One Ported) (room_of rates marks slots) top (decoded (state_of 0 0 accepted 0 0 0 0 0 0)) 8
    input delay rate
