-- `room_grants::becomes::shared_by` meets its contract, by whether the desk holds the set already. Assumes nothing.
use mathlib.Core.Path.{sym, ◌∙◌}
use native.Mathlib.Omega.{arith}
use Rattle.room_marks.proofs.MarkNumbers.{desk-most, mark-most}
use Rattle.room_grants.proofs.becomes.shared_by.Goals as goal

pub overflow_add-more : goal.overflow_add-more
overflow_add-more c =
    omega (arith, mark-most c.args.mark c.requires, desk-most c.args.desk, c.number.ensures)

pub returns-then-held_by : goal.returns-then-held_by
returns-then-held_by c = rw (sym c.held_by.ensures ∙ c.if-held_by.true)

pub returns : goal.returns
returns c =
    rw (sym c.held_by.ensures ∙ c.if-held_by.false, c.number.ensures)
