-- W4. A room of tables that two desks share: slots of one set length, each with a rate and a mark. Definitions only.
use Rattle.std.specs.Prelude.{ℕ, zero, suc, ◌+◌, ◌*◌, List, length, take, drop, Float}
use Rattle.constants.specs.Numbers.{zero-f, set_length}
use Rattle.bessel.specs.declared.Mode.{Mode}
use Rattle.sinc_bank_f32.specs.Sets.{set_in, with_part}
use Rattle.room_marks.specs.declared.Desk.{Desk}
use Rattle.room_grants.specs.declared.Place.{Place}
use Rattle.room_grants.specs.declared.Place.TheVariants.{Shared, Anew}
use Rattle.room_grants.specs.declared.Place.TheVariants as place
use Rattle.room_grants.specs.Grants.{open_verdict, cleared_to, asked_place, rates_by, marks_by, give_up_verdict}
use Rattle.room_grants.specs.Grants.{given_up}
use Rattle.set_room.specs.declared.Asked.{Asked}
use Rattle.set_room.specs.declared.Asked.TheVariants.{Granted, Refused}

-- The three lent lists.
pub record Room : Type 0 where
  pub rates : List Float
  pub marks : List ℕ
  pub slots : List Float

abbrev pub room_of : List Float → List ℕ → List Float → Room
room_of rates marks slots = record { rates = rates; marks = marks; slots = slots }

-- The floats of slot k.
unfoldable pub slot_of : ℕ → List Float → List Float
slot_of k slots = take set_length (drop (k * set_length) slots)

-- The floats with a set in slot k; all others are as they were.
abbrev pub with_set : ℕ → List Float → List Float → List Float
with_set k floats slots = with_part (k * set_length) (k * set_length + set_length) floats slots

-- ---- opening: it clears the rates and the marks, and leaves the floats
abbrev pub open_due : Room → ℕ
open_due r = open_verdict r.rates r.marks (length r.slots)

unfoldable pub opened : Room → Room
opened r =
    room_of (cleared_to (open_due r) zero-f r.rates) (cleared_to (open_due r) 0 r.marks) r.slots

-- ---- asking
abbrev pub place_in : Float → Mode → Room → Place
place_in rate mode r = asked_place rate mode r.rates r.marks (length r.slots)

-- W4b, W4c. The floats: built anew in a free slot, and otherwise as they were.
abbrev pub slots_by : Place → Float → Mode → List Float → List Float
slots_by (Shared k) rate mode slots = slots
slots_by (Anew k) rate mode slots = with_set k (set_in mode rate) slots
slots_by (place.Refused n) rate mode slots = slots

unfoldable pub asked_of : Desk → Float → Mode → Room → Room
asked_of desk rate mode r =
    let at = place_in rate mode r in
    room_of (rates_by at rate r.rates) (marks_by at desk mode r.marks) (slots_by at rate mode r.slots)

-- The answer: the number of the slot that is granted, or the refusal.
abbrev pub answer_by : Place → Asked
answer_by (Shared k) = Granted k
answer_by (Anew k) = Granted k
answer_by (place.Refused n) = Refused n

abbrev pub grant_of : Float → Mode → Room → Asked
grant_of rate mode r = answer_by (place_in rate mode r)

-- C4. 02's number for each case, 0 for a grant.
abbrev pub number_of : Asked → ℕ
number_of (Granted k) = 0
number_of (Refused n) = n

-- ---- giving up: a mark alone may change
abbrev pub give_up_due : Desk → Float → Mode → Room → ℕ
give_up_due desk rate mode r = give_up_verdict desk rate mode r.rates r.marks (length r.slots)

unfoldable pub gave_up : Desk → Float → Mode → Room → Room
gave_up desk rate mode r =
    room_of r.rates (given_up desk rate mode r.rates r.marks (length r.slots)) r.slots
