-- `told_delays::sinc_told` meets its contract: the sinc's reader answers, and its taps are counted beside it.
-- Assumes nothing.
use mathlib.Core.Bool.{◌&&◌}
use lib.Dec.{eqb}
use lib.ListN.{length}
use Rattle.sinc_settings.specs.Ranges.{taps_ok, phases_ok}
use Rattle.sinc_settings.specs.Refusals.{table_length}
use Rattle.sinc_read.specs.Reading.{sinc_at}
use Rattle.told_delays.proofs.WithAbsent.{told}
use Rattle.told_delays.proofs.tables.sinc_told.Goals as goal

pub returns : goal.returns
returns c =
    let s = c.args in record {
      value = told (sinc_at s.table.now s.taps s.phases) s.taps (taps_ok s.taps && phases_ok s.phases)
          (eqb (length s.table.now) (table_length s.taps s.phases))
          s.state s.ring.now s.input s.delay c.process_sample-p.result c.of_call-absent.result
          c.process_sample-p.ensures.value c.of_call-absent.ensures;
      ring_after = c.process_sample-p.ensures.ring_after;
    }
