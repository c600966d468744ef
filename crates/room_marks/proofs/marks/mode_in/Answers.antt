-- `room_marks::marks::mode_in` meets its contract, by whether the mark is below 4. Assumes nothing.
use borrow.Author.Tests.{lt-ltb, le-ltb}
use native.Mathlib.Omega.{arith}
use Rattle.room_marks.proofs.marks.mode_in.Goals as goal

pub returns-then-mark-lt4 : goal.returns-then-mark-lt4
returns-then-mark-lt4 c = rw (lt-ltb c.args.mark 4 c.if-mark-lt4.true)

pub returns-else-mark-lt4 : goal.returns-else-mark-lt4
returns-else-mark-lt4 c = rw (le-ltb c.args.mark 4 (omega arith))
