use Rattle.room_marks.specs.Search.{suits_of}
use Rattle.room_marks.proofs.Searching.{Passed}
use Rattle.room_marks.proofs.search.first.Given as goal

abbrev pub invariant-loop-i : goal.invariant-loop-i
invariant-loop-i l = Passed (suits_of l.wanted) l.rates l.marks l.i
