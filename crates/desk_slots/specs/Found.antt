-- W4. What is found in a room for one call of a desk: the slots in which it holds the call's two sets, and whether the
-- room is in range. Definitions only.
use Rattle.std.specs.Prelude.{ℕ, List, Float}
use Rattle.bessel.specs.declared.Mode.{Mode}
use Rattle.room_marks.specs.declared.Desk.{Desk}
use Rattle.room_marks.specs.Slots.{room_ok}
use Rattle.room_marks.specs.Asking.{own_slot}
use Rattle.desk_slots.specs.declared.Found.{Found}

-- A slot's number is the number of slots if this desk does not hold the set.
abbrev pub found_of : Desk → Mode → Float → Float → List Float → List ℕ → Found
found_of desk mode safe tighter rates marks = record {
  safe = own_slot desk safe mode rates marks;
  tighter = own_slot desk tighter mode rates marks;
  whole = room_ok rates marks;
}
