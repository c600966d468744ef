-- `draft_stretch::passes` meets its contract, by the law of `stretch_call`. Assumes nothing.
use lib.Ieee.{of_bits}
use Rattle.stretch_call.proofs.Tests.{quick}
use Rattle.draft_stretch.proofs.passes.Goals as goal

pub returns : goal.returns
unfolding of_bits
returns c =
    let a = c.args in
    rw (
      c.both.ensures,
      c.both-fine.ensures,
      c.within.ensures,
      c.is_finite_f32.ensures,
    )
    (quick a.accepted a.input a.delay)
