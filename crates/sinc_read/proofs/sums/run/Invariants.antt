use Rattle.std.proofs.Common.{◌≡◌}
use Rattle.loop_laws.specs.Loops.{fold}
use Rattle.sinc_read.specs.Sums.{run_turn}
use Rattle.sinc_read.proofs.sums.run.Given as goal

abbrev pub invariant-loop-k : goal.invariant-loop-k
invariant-loop-k l = l.sum ≡ fold (run_turn l.table l.row l.next l.blend l.source l.place) l.sum-2 l.k
