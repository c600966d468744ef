use Rattle.room_marks.specs.Slots.{has_set}
use Rattle.room_marks.proofs.Searching.{Passed}
use Rattle.room_marks.proofs.search.first_set.Given as goal

abbrev pub invariant-loop-i : goal.invariant-loop-i
invariant-loop-i l = Passed (has_set l.rate l.mode) l.rates l.marks l.i
