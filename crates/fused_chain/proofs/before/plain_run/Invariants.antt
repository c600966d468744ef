use Rattle.std.proofs.Common.{◌-◌, ◌≤◌, T}
use lib.Ieee.Scale.{finite}
use Rattle.fused_chain.specs.Blocks.{Carries}
use Rattle.fused_chain.proofs.before.plain_run.Given as goal

abbrev pub invariant-loop-k : goal.invariant-loop-k
invariant-loop-k l =
    (l.from ≤ l.k) × (l.k ≤ l.to) × (Carries l.xs l.row0 l.row1 l.blend l.from l.k l.sum l.held) × (T (finite l.held))

abbrev pub decreases-loop-k : goal.decreases-loop-k
decreases-loop-k l = l.to - l.k
