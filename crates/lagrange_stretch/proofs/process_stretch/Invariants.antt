use mathlib.Core.Bool.{true}
use Rattle.lagrange.specs.Kernel.{taps_ok, lagrange_at}
use Rattle.stretch_call.proofs.Loops.{Going}
use Rattle.lagrange_stretch.proofs.process_stretch.Given as goal

abbrev pub invariant-loop-k : goal.invariant-loop-k
invariant-loop-k l =
    Going (lagrange_at l.taps) (taps_ok l.taps) true l.state l.initial.ring l.inputs l.delays l.initial.out l.ring l.out
    l.i l.k
