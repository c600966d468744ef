-- `oversampled_refusals::refusal` meets its contract: nothing is due if the fast path passes, and each test behind it
-- is the definition's, if the factor is in range. Assumes nothing.
use mathlib.Core.Path.{sym, ◌∙◌}
use denote.Floats.{passes}
use lib.Dec.{eqb→eq}
use lib.Ieee.{of_bits}
use Rattle.oversampled_refusals.proofs.Tests.{by_tests}
use Rattle.oversampled_refusals.proofs.refusal.Goals as goal

pub returns-then-passes : goal.returns-then-passes
returns-then-passes c =
    sym (eqb→eq _ 0 (passes _ (sym c.passes.ensures ∙ c.if-passes.true)))

pub returns : goal.returns
unfolding of_bits
returns c =
    let a = c.args in
    rw (
      c.first.ensures,
      c.both-t1.ensures,
      c.factor_ok.ensures,
      c.both-t3.ensures,
      c.within.ensures,
      c.both-t5.ensures,
      c.is_finite.ensures,
      c.is_finite-t4.ensures,
    )
    (by_tests a.own a.lent a.factor a.outer c.counts_ok.result c.counts_ok.ensures a.input
    a.delay)
