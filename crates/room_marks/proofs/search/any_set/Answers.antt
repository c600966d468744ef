-- `room_marks::search::any_set` meets its contract: the first slot that has the set is one of the slots. Assumes
-- nothing.
use mathlib.Core.Path.{sym}
use Rattle.room_marks.specs.Slots.{has_set}
use Rattle.room_marks.proofs.Searching.{some_first}
use Rattle.room_marks.proofs.search.any_set.Goals as goal

pub returns : goal.returns
returns c =
    let a = c.args in
    rw (c.first_set.ensures, c.slots.ensures)
    (sym (some_first (has_set a.rate a.mode) a.rates.now a.marks.now))
