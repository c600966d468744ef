-- `told_delays::lagrange_told` meets its contract: Lagrange's reader answers, and its taps are counted beside it.
-- Assumes nothing.
use mathlib.Core.Bool.{true}
use Rattle.lagrange.specs.Kernel.{taps_ok, lagrange_at}
use Rattle.told_delays.proofs.WithAbsent.{told}
use Rattle.told_delays.proofs.lagrange_told.Goals as goal

pub returns : goal.returns
returns c =
    let s = c.args in record {
      value = told (lagrange_at s.taps) s.taps (taps_ok s.taps) true
          s.state s.ring.now s.input s.delay c.process_sample-p.result c.of_call-absent.result
          c.process_sample-p.ensures.value c.of_call-absent.ensures;
      ring_after = c.process_sample-p.ensures.ring_after;
    }
