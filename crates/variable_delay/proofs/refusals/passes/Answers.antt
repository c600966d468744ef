-- `variable_delay::passes` meets its contract, by the law of `Settings`. Assumes nothing.
use lib.Ieee.{of_bits}
use Rattle.variable_delay.proofs.Settings.{none-due}
use Rattle.variable_delay.proofs.refusals.passes.Goals as goal

pub returns : goal.returns
unfolding of_bits
returns c =
    let a = c.args in
    rw (
      c.both-3.ensures,
      c.both.ensures,
      c.both-2.ensures,
      c.both-t4.ensures,
      c.within.ensures,
      c.is_finite.ensures,
      c.both-t2.ensures,
      c.both-t1.ensures,
    )
    (none-due a.needed a.own a.lent a.len a.accepted a.input a.delay)
