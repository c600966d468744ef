-- `told_stretches::farrow8_told` meets its contract: Farrow8's stretch answers, and its taps are counted beside it.
-- Assumes nothing.
use mathlib.Core.Bool.{true}
use native.Mathlib.Omega.{arith}
use Rattle.farrow8.specs.Kernel.{farrow_at}
use Rattle.told_stretches.proofs.WithAbsent.{told}
use Rattle.told_stretches.proofs.farrow8_told.Goals as goal

pub returns : goal.returns
returns c =
    let s = c.args in
    told farrow_at true true 8 (λ own. omega arith) s.state s.ring.now s.inputs.now
    s.delays.now s.out.now c.process_stretch-a.result c.absent_in-absent.result
    c.process_stretch-a.ensures c.absent_in-absent.ensures
