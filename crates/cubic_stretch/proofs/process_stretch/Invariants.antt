use mathlib.Core.Bool.{true}
use Rattle.cubic_farrow.specs.Cubic.{cubic_at}
use Rattle.stretch_call.proofs.Loops.{Going}
use Rattle.cubic_stretch.proofs.process_stretch.Given as goal

abbrev pub invariant-loop-k : goal.invariant-loop-k
invariant-loop-k l =
    Going cubic_at true true l.state l.initial.ring l.inputs l.delays l.initial.out l.ring l.out l.i l.k
