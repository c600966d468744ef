-- `variable_delay::due` meets its contract: each test is the definition's. Assumes nothing.
use lib.Ieee.{of_bits}
use Rattle.variable_delay.proofs.refusals.due.Goals as goal

pub returns : goal.returns
unfolding of_bits
returns c =
    rw (
      c.first.ensures,
      c.both-t1.ensures,
      c.both-t2.ensures,
      c.is_finite-t4.ensures,
      c.both-t5.ensures,
      c.is_finite.ensures,
    )
