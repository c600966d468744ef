use Rattle.turned_bytes.proofs.Turns.{Turning}
use Rattle.turned_bytes.proofs.turn_each.Given as goal

abbrev pub invariant-loop-k : goal.invariant-loop-k
invariant-loop-k g l = Turning g.row.WIDTH l.initial.bytes l.bytes l.k
