-- `told_delays::cubic_told` meets its contract: the cubic's reader answers, and its taps are counted beside it.
-- Assumes nothing.
use mathlib.Core.Bool.{true}
use Rattle.cubic_farrow.specs.Cubic.{cubic_at}
use Rattle.told_delays.proofs.WithAbsent.{told}
use Rattle.told_delays.proofs.cubic_told.Goals as goal

pub returns : goal.returns
returns c =
    let s = c.args in record {
      value = told cubic_at 4 true true
          s.state s.ring.now s.input s.delay c.process_sample-p.result c.of_call-absent.result
          c.process_sample-p.ensures.value c.of_call-absent.ensures;
      ring_after = c.process_sample-p.ensures.ring_after;
    }
