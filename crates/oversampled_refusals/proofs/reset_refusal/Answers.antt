-- `oversampled_refusals::reset_refusal` meets its contract: each test is the definition's, if the factor is in range.
-- Assumes nothing.
use lib.Ieee.{of_bits}
use Rattle.oversampled_refusals.proofs.Tests.{by-reset-tests}
use Rattle.oversampled_refusals.proofs.reset_refusal.Goals as goal

pub returns : goal.returns
unfolding of_bits
returns c =
    let a = c.args in
    rw (
      c.first.ensures,
      c.both-t1.ensures,
      c.factor_ok.ensures,
      c.both-t3.ensures,
      c.within.ensures,
    )
    (by-reset-tests a.own a.lent a.factor a.outer c.counts_ok.result c.counts_ok.ensures)
