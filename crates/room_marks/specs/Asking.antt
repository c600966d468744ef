-- W4. Whether a room's three lengths agree, and the slots in which a set is looked for. Definitions only.
use Rattle.std.specs.Prelude.{ℕ, ◌*◌, Bool, ◌&&◌, List, eqb, length, Float}
use Rattle.constants.specs.Numbers.{set_length}
use Rattle.bessel.specs.declared.Mode.{Mode}
use Rattle.room_marks.specs.declared.Desk.{Desk}
use Rattle.room_marks.specs.Slots.{first_slot, free, has_set, own_set}

-- W4a. A rate and a mark for each slot, and the floats of a set for each. The number of floats is an argument.
abbrev pub lengths_agree : List Float → List ℕ → ℕ → Bool
lengths_agree rates marks floats = eqb (length rates) (length marks) && eqb floats (length marks * set_length)

-- The slots in which a set is looked for: the one that holds it, a free one, and the one that a desk holds.
abbrev pub set_slot : Float → Mode → List Float → List ℕ → ℕ
set_slot rate mode = first_slot (has_set rate mode)

abbrev pub free_slot : List Float → List ℕ → ℕ
free_slot = first_slot free

abbrev pub own_slot : Desk → Float → Mode → List Float → List ℕ → ℕ
own_slot desk rate mode = first_slot (own_set desk rate mode)
