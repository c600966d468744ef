use Prim.Native.Nat.{◌-◌}
use Rattle.fir_filter.specs.Filters.{add_to}
use Rattle.fir_filter.proofs.RunTurns.{Going}
use Rattle.fir_filter.proofs.tested.tested_run.Given as goal

abbrev pub invariant-loop-p : goal.invariant-loop-p
invariant-loop-p l =
    Going add_to l.coefficients l.history l.index l.step l.above l.count l.start (l.above - l.count) l.sum l.i l.p
