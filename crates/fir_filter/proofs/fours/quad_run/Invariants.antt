use Prim.Native.Nat.{◌+◌, ◌-◌}
use Rattle.fir_filter.specs.Runs.{plain_to}
use Rattle.fir_filter.proofs.RunTurns.{Going}
use Rattle.fir_filter.proofs.fours.quad_run.Given as goal

abbrev pub invariant-loop-p : goal.invariant-loop-p
invariant-loop-p l =
    (Going plain_to l.coefficients l.history l.index 4 l.above l.count l.initial.a (l.above - l.count)
    l.a l.i l.p)
    × (Going plain_to l.coefficients l.history (l.index + 1) 4 l.above l.count l.initial.b (l.above - l.count)
    l.b (l.i + 1) l.p)
    × (Going plain_to l.coefficients l.history (l.index + 2) 4 l.above l.count l.initial.c (l.above - l.count)
    l.c (l.i + 2) l.p)
    × (Going plain_to l.coefficients l.history (l.index + 3) 4 l.above l.count l.initial.d (l.above - l.count)
    l.d (l.i + 3) l.p)
