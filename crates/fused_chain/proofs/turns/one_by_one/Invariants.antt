use Rattle.fused_chain.specs.Blocks.{Carries}
use Rattle.fused_chain.proofs.turns.one_by_one.Given as goal

abbrev pub invariant-loop-k : goal.invariant-loop-k
invariant-loop-k l = Carries l.xs l.row0 l.row1 l.blend l.from l.k l.sum l.held
