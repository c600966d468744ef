-- W4. The quality reader over a room: which of the lent slots a desk reads, what it is refused, and what a call answers
-- and leaves. Definitions only.
use Rattle.std.specs.Prelude.{ℕ, Bool, not, ◌&&◌, ◌||◌, List, [], ◌∷◌, length, ◌==◌, is_nan, nat_le, nat_lt, Float}
use Rattle.std.specs.Float.Ieee.{le}
use Rattle.std.specs.Float.Ieee.Scale.{finite}
use Rattle.constants.specs.Numbers.{zero-f, limit, limit-f}
use Rattle.refusal_order.specs.Order.{Test, ◌unless◌, first_of}
use Rattle.ring.specs.Length.{settings_ok, length_for}
use Rattle.variable_delay.specs.Reader.{Reading}
use Rattle.bessel.specs.declared.Mode.{Mode}
use Rattle.bank_choice.specs.Rates.{bank_ok, set_rate_of}
use Rattle.bank_choice.specs.Choosing.{chosen_of}
use Rattle.bank_choice.specs.declared.Choice.{Choice}
use Rattle.bank_read.specs.Bank.{chosen_at}
use Rattle.quality_mode.specs.declared.QualityMode.{QualityMode}
use Rattle.quality_fade.specs.Fade.{length_ok}
use Rattle.returning_fade.specs.Rules.{place_ok}
use Rattle.quality_variable_delay.specs.State.{fade_part}
use Rattle.quality_variable_delay.specs.Reader.{ring_after, processed_by}
use Rattle.quality_variable_delay.specs.declared.QualityVariableDelayF32.{QualityVariableDelayF32}
use Rattle.quality_variable_delay.specs.declared.ProcessedQ.{ProcessedQ}
use Rattle.room_marks.specs.declared.Desk.{Desk}
use Rattle.room_marks.specs.Slots.{some, own_set, room_ok}
use Rattle.room_marks.specs.Asking.{lengths_agree, own_slot}
use Rattle.set_room.specs.Room.{Room}

-- Which desk calls, and in which mode it reads its sets.
pub record Caller : Type 0 where
  pub desk : Desk
  pub mode : Mode

abbrev pub caller_of : Desk → Mode → Caller
caller_of desk mode = record { desk = desk; mode = mode }

-- Whether this desk holds the set of a rate in its mode, and in which slot: what the other desk alone holds is not
-- there.
abbrev pub holds_set : Caller → Room → Float → Bool
holds_set c room rate = some (own_set c.desk rate c.mode) room.rates room.marks

abbrev pub held_slot : Caller → Room → Float → ℕ
held_slot c room rate = own_slot c.desk rate c.mode room.rates room.marks

-- The rates of the two sets that 000's choice for the maximum rate `top` names.
abbrev pub safe_rate : Float → Float → Float
safe_rate top rate = set_rate_of top (chosen_of top rate).safe

abbrev pub tighter_rate : Float → Float → Float
tighter_rate top rate = set_rate_of top (chosen_of top rate).tighter

-- 000's choice, with the slots in which this desk holds its two sets in place of their numbers in a bank.
unfoldable pub desk_choice : Caller → Room → Float → Float → Choice
desk_choice c room top rate = record {
  safe = held_slot c room (safe_rate top rate);
  tighter = held_slot c room (tighter_rate top rate);
  which = (chosen_of top rate).which;
  blend = (chosen_of top rate).blend;
}

-- What a quality reads at a rate from the slots of this desk.
abbrev pub held_at : Caller → Room → Float → Float → QualityMode → Reading
held_at c room top rate q xs count p = chosen_at (desk_choice c room top rate) q room.slots xs count p

-- N2. The room's lengths agree, and this desk holds both sets. For a rate that is a NaN no set is looked for (N7).
abbrev pub sets_held : Caller → Room → Float → Float → Bool
sets_held c room top rate =
    lengths_agree room.rates room.marks (length room.slots)
    && (is_nan rate || (holds_set c room (safe_rate top rate) && holds_set c room (tighter_rate top rate)))

-- N1 to N9. The tests in 01's order, for every quality: a set that this desk does not hold is missing in Draft too. The
-- room's fields stand beside the reader's (W4j).
abbrev pub desk_tests : Caller → Room → Float → QualityVariableDelayF32 → ℕ → Float → Float → Float → List Test
desk_tests c room top d len x y rate =
    1 unless (settings_ok d.maximum d.margin && (length_ok d.crossfade_samples && bank_ok top))
    ∷ 2 unless (len == length_for d.maximum d.margin && sets_held c room top rate)
    ∷ 3 unless ((nat_le d.accepted limit && place_ok (fade_part d)) && room_ok room.rates room.marks)
    ∷ 4 unless finite x
    ∷ 5 unless (finite y && le zero-f y)
    ∷ 6 unless le y limit-f
    ∷ 7 unless not (is_nan rate)
    ∷ 8 unless nat_lt d.accepted limit
    ∷ []

abbrev pub desk_verdict : Caller → Room → Float → QualityVariableDelayF32 → ℕ → Float → Float → Float → ℕ
desk_verdict c room top d len x y rate = first_of (desk_tests c room top d len x y rate)

-- What a call answers, and the ring that it leaves.
abbrev pub desk_call : Caller → Room → Float → QualityVariableDelayF32 → List Float → Float → Float → QualityMode
    → Float → ProcessedQ
desk_call c room top d xs x y q rate =
    processed_by (held_at c room top rate) (desk_verdict c room top d (length xs) x y rate) d xs x y q

abbrev pub desk_ring : Caller → Room → Float → QualityVariableDelayF32 → List Float → Float → Float → Float → List Float
desk_ring c room top d xs x y rate = ring_after (desk_verdict c room top d (length xs) x y rate) d xs x
