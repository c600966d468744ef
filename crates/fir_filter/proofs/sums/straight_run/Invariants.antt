use Prim.Native.Nat.{◌-◌}
use Rattle.fir_filter.specs.Runs.{plain_to}
use Rattle.fir_filter.proofs.RunTurns.{Going}
use Rattle.fir_filter.proofs.sums.straight_run.Given as goal

abbrev pub invariant-loop-p : goal.invariant-loop-p
invariant-loop-p l =
    Going plain_to l.coefficients l.history l.index 1 l.above l.count l.start l.end l.sum l.i l.p

abbrev pub decreases-loop-p : goal.decreases-loop-p
decreases-loop-p l = l.p - l.end

abbrev pub invariant-loop-p-2 : goal.invariant-loop-p-2
invariant-loop-p-2 l =
    Going plain_to l.coefficients l.history l.index 1 l.above l.count l.start l.end l.sum l.i l.p

abbrev pub decreases-loop-p-2 : goal.decreases-loop-p-2
decreases-loop-p-2 l = l.p - l.end
