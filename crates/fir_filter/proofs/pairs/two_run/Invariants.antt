use Prim.Native.Nat.{◌+◌, ◌-◌}
use Rattle.fir_filter.specs.Runs.{plain_to}
use Rattle.fir_filter.proofs.RunTurns.{Going}
use Rattle.fir_filter.proofs.pairs.two_run.Given as goal

abbrev pub invariant-loop-p : goal.invariant-loop-p
invariant-loop-p l =
    (Going plain_to l.coefficients l.history l.index 2 l.above l.count l.first l.end l.a l.i l.p)
    × (Going plain_to l.coefficients l.history (l.index + 1) 2 l.above l.count l.second l.end l.b (l.i + 1) l.p)

abbrev pub decreases-loop-p : goal.decreases-loop-p
decreases-loop-p l = l.p - l.end

abbrev pub invariant-loop-p-2 : goal.invariant-loop-p-2
invariant-loop-p-2 l =
    (Going plain_to l.coefficients l.history l.index 2 l.above l.count l.first l.end l.a l.i l.p)
    × (Going plain_to l.coefficients l.history (l.index + 1) 2 l.above l.count l.second l.end l.b (l.i + 1) l.p)

abbrev pub decreases-loop-p-2 : goal.decreases-loop-p-2
decreases-loop-p-2 l = l.p - l.end
