-- `stretch_call::passes` meets its contract, by the law of `Tests`. Assumes nothing.
use lib.Ieee.{of_bits}
use Rattle.stretch_call.proofs.Tests.{quick}
use Rattle.stretch_call.proofs.passes.Goals as goal

pub returns : goal.returns
unfolding of_bits
returns c =
    let a = c.args in
    rw (
      c.both.ensures,
      c.both-fine.ensures,
      c.within.ensures,
      c.is_finite.ensures,
    )
    (quick a.accepted a.input a.delay)
