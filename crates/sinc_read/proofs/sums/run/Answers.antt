-- `sinc_read::sums::run` meets its contract: after k turns the sum is the fold of k turns. Assumes nothing.
use Rattle.std.proofs.Common.{refl}
use Rattle.loop_laws.proofs.Folds.{none, turn}
use Rattle.sinc_read.specs.Sums.{run_turn}
use Rattle.sinc_read.proofs.sums.run.Goals as goal

pub loop-k-init : goal.loop-k-init
loop-k-init c = none _ _

pub loop-k-preserved : goal.loop-k-preserved
loop-k-preserved c =
    let a = c.args in
    turn (run_turn a.table.now a.row a.next a.blend a.source.now a.place) a.sum c.loop-k.k c.loop-k.sum _
    c.loop-k.invariant refl
