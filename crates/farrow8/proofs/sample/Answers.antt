-- `farrow8::sample` meets its contract, by the test of the position. Assumes nothing.
use lib.Ieee.{of_bits}
use Rattle.farrow8.proofs.sample.Goals as goal

pub returns-then-position_ok : goal.returns-then-position_ok
returns-then-position_ok c =
    rw (
      c.answered.ensures,
      c.read.ensures,
      ← c.position_ok.ensures,
      c.if-position_ok.true,
    )

pub returns-else-position_ok : goal.returns-else-position_ok
unfolding of_bits
returns-else-position_ok c = rw (c.answered-else-position_ok.ensures, ← c.position_ok.ensures, c.if-position_ok.false)
