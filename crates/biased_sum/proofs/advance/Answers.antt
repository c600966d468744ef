-- `biased_sum::advance` meets its contract: if all tests pass together, each of them passes. Assumes nothing.
use mathlib.Core.Path.{refl}
use Rattle.biased_sum.proofs.CombinedTests.{advanced, all-taken}
use Rattle.biased_sum.proofs.advance.Goals as goal

pub returns : goal.returns
returns c =
    let a = c.args in record {
      sum_value = refl;
      fine_value = all-taken a.low a.high a.sum a.p a.q a.s a.t
          c.both.result c.both-2.result c.both-first.result c.both-3.result c.both-4.result
          c.both-last.result c.both-5.result
          c.both.ensures c.both-2.ensures c.both-first.ensures c.both-3.ensures c.both-4.ensures
          c.both-last.ensures c.both-5.ensures;
      advanced = advanced a.low a.high a.sum a.p a.q a.s a.t
          c.both.result c.both-2.result c.both-first.result c.both-3.result c.both-4.result
          c.both-last.result c.both-5.result
          c.both.ensures c.both-2.ensures c.both-first.ensures c.both-3.ensures c.both-4.ensures
          c.both-last.ensures c.both-5.ensures;
    }
