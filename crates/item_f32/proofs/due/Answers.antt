-- `item_f32::due` meets its contract: on the fast path nothing is refused; otherwise each test is the definition's.
-- Assumes nothing.
use mathlib.Core.Path.{sym}
use lib.Ieee.{of_bits}
use Rattle.item_f32.proofs.due.Goals as goal

pub returns-then-fine : goal.returns-then-fine
returns-then-fine c = sym (c.fine.ensures c.if-fine.true)

pub returns : goal.returns
unfolding of_bits
returns c =
    rw (
      c.first.ensures,
      c.is_finite_f32-t4.ensures,
      c.both-t5.ensures,
      c.is_finite.ensures,
    )
