-- `told_stretches::lagrange_told` meets its contract: Lagrange's stretch answers, and its taps are counted beside it.
-- Assumes nothing.
use mathlib.Core.Bool.{true}
use Rattle.lagrange.specs.Kernel.{taps_ok, lagrange_at}
use Rattle.told_stretches.proofs.WithAbsent.{told, lagrange-few}
use Rattle.told_stretches.proofs.lagrange_told.Goals as goal

pub returns : goal.returns
returns c =
    let s = c.args in
    told (lagrange_at s.taps) (taps_ok s.taps) true s.taps (lagrange-few s.taps) s.state s.ring.now
    s.inputs.now
    s.delays.now s.out.now c.process_stretch-a.result c.absent_in-absent.result
    c.process_stretch-a.ensures c.absent_in-absent.ensures
