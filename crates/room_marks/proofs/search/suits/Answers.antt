-- `room_marks::search::suits` meets its contract, by what is wanted. Assumes nothing.
use mathlib.Core.Path.{◌∙◌}
use Rattle.room_marks.proofs.search.suits.Goals as goal

pub returns-in-Free : goal.returns-in-Free
returns-in-Free c = rw c.in-Free.is

pub returns-in-Own : goal.returns-in-Own
returns-in-Own c =
    rw c.in-Own.is
    (c.both-in-Own.ensures ∙ rw (c.both.ensures, c.in_mode.ensures, c.held_by.ensures))
