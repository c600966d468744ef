-- `told_stretch_f32::sinc_told` meets its contract: the stretch answers, and its taps are counted beside it. Assumes
-- nothing.
use mathlib.Core.Bool.{◌&&◌}
use lib.Dec.{eqb}
use lib.ListN.{length}
use Rattle.sinc_settings.specs.Ranges.{taps_ok, phases_ok}
use Rattle.sinc_settings.specs.Refusals.{table_length}
use Rattle.sinc_read_f32.specs.Reading.{sinc_f32_at}
use Rattle.told_stretches.proofs.WithAbsent.{sinc-few}
use Rattle.told_stretch_f32.proofs.WithAbsent.{told}
use Rattle.told_stretch_f32.proofs.sinc_told.Goals as goal

pub returns : goal.returns
returns c =
    let s = c.args in
    told (sinc_f32_at s.table.now s.taps s.phases) (taps_ok s.taps && phases_ok s.phases)
    (eqb (length s.table.now) (table_length s.taps s.phases)) s.taps
    (sinc-few s.taps (phases_ok s.phases)) s.state s.ring.now s.inputs.now
    s.delays.now s.out.now c.process_stretch-a.result c.absent_in-absent.result
    c.process_stretch-a.ensures c.absent_in-absent.ensures
