use Prim.Native.Nat.{◌*◌}
use Rattle.lagrange.specs.Eights.{Weights}
use Rattle.lagrange.proofs.lanes.nodes_before.Given as goal

abbrev pub invariant-loop-h : goal.invariant-loop-h
invariant-loop-h l = Weights l.local (2 * l.f) (2 * l.h) l.w
