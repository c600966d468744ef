-- `oversampled_refusals::passes` meets its contract, by the law of `Tests`. Assumes nothing.
use lib.Ieee.{of_bits}
use Rattle.oversampled_refusals.proofs.Tests.{none-due}
use Rattle.oversampled_refusals.proofs.passes.Goals as goal

pub returns : goal.returns
unfolding of_bits
returns c =
    let a = c.args in
    rw (
      c.both-3.ensures,
      c.both-2.ensures,
      c.both.ensures,
      c.both-t4.ensures,
      c.within-2.ensures,
      c.is_finite.ensures,
      c.both-t3.ensures,
      c.within.ensures,
      c.both-t1.ensures,
      c.factor_ok.ensures,
    )
    (none-due a.own a.lent a.factor a.outer c.counts_pass.result c.counts_pass.ensures a.input
    a.delay)
