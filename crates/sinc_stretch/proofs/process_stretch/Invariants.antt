use mathlib.Core.Bool.{◌&&◌}
use lib.Dec.{eqb}
use lib.ListN.{length}
use Rattle.sinc_settings.specs.Ranges.{taps_ok, phases_ok}
use Rattle.sinc_settings.specs.Refusals.{table_length}
use Rattle.sinc_read.specs.Reading.{sinc_at}
use Rattle.stretch_call.proofs.Loops.{Going}
use Rattle.sinc_stretch.proofs.process_stretch.Given as goal

abbrev pub invariant-loop-k : goal.invariant-loop-k
invariant-loop-k l =
    Going (sinc_at l.table l.taps l.phases) (taps_ok l.taps && phases_ok l.phases)
    (eqb (length l.table) (table_length l.taps l.phases))
    l.state l.initial.ring l.inputs l.delays l.initial.out l.ring l.out l.i l.k
