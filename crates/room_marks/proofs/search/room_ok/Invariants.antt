use mathlib.Core.Path.{◌≡◌}
use lib.ListN.{drop}
use Rattle.room_marks.specs.Slots.{room_ok}
use Rattle.room_marks.proofs.search.room_ok.Given as goal

abbrev pub invariant-loop-i : goal.invariant-loop-i
invariant-loop-i l = room_ok l.rates l.marks ≡ room_ok (drop l.i l.rates) (drop l.i l.marks)
