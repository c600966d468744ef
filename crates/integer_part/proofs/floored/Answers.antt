-- `integer_part::floored` meets its contract, by the law of `FloorByOneSum`. Assumes nothing.
use Rattle.std.proofs.Common.{true, false}
use lib.Ieee.{of_bits}
use Rattle.integer_part.proofs.FloorByOneSum.{nearby}
use Rattle.integer_part.proofs.floored.Goals.{then-x-t, else-x-t}
use Rattle.integer_part.proofs.floored.Goals as goal

pub returns : goal.returns
unfolding of_bits
returns c =
    elim c.if-x-t.branch [
      | then-x-t w ↦ rw w.step-is (nearby _ _ tt _ c.requires true w.if-x-t.true)
      | else-x-t w ↦ rw w.step-is (nearby _ _ tt _ c.requires false w.if-x-t.false)
    ]
