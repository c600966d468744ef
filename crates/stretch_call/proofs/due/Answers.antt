-- `stretch_call::due` meets its contract: each test is the definition's. Assumes nothing.
use lib.Ieee.{of_bits}
use Rattle.stretch_call.proofs.due.Goals as goal

pub returns : goal.returns
unfolding of_bits
returns c =
    rw (
      c.first.ensures,
      c.is_finite-t4.ensures,
      c.both-t5.ensures,
      c.is_finite.ensures,
    )
