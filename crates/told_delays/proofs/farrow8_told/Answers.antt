-- `told_delays::farrow8_told` meets its contract: Farrow8's reader answers, and its taps are counted beside it.
-- Assumes nothing.
use mathlib.Core.Bool.{true}
use Rattle.farrow8.specs.Kernel.{farrow_at}
use Rattle.told_delays.proofs.WithAbsent.{told}
use Rattle.told_delays.proofs.farrow8_told.Goals as goal

pub returns : goal.returns
returns c =
    let s = c.args in record {
      value = told farrow_at 8 true true
          s.state s.ring.now s.input s.delay c.process_sample-p.result c.of_call-absent.result
          c.process_sample-p.ensures.value c.of_call-absent.ensures;
      ring_after = c.process_sample-p.ensures.ring_after;
    }
