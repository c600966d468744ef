use Rattle.std.proofs.Common.{◌-◌, ◌≤◌}
use Rattle.fused_chain.proofs.FourBiasedTurns.{Stands}
use Rattle.fused_chain.proofs.behind.biased_run.Given as goal

abbrev pub invariant-loop-k : goal.invariant-loop-k
invariant-loop-k l =
    (l.from ≤ l.k) × (l.k ≤ l.to) × (Stands l.xs l.row0 l.row1 l.blend l.bias l.low l.high l.from l.sum l.k l.held)

abbrev pub decreases-loop-k : goal.decreases-loop-k
decreases-loop-k l = l.to - l.k
