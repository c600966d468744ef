use Rattle.std.proofs.Common.{◌≡◌, take}
use mathlib.Core.List.{foldl}
use Rattle.residual.specs.Report.{differences}
use Rattle.residual.specs.Tallies.{step_of}
use Rattle.residual.proofs.steps.stepped.Given as goal

abbrev pub invariant-loop-i : goal.invariant-loop-i
invariant-loop-i l = l.now ≡ foldl step_of l.initial.now (take l.i (differences l.a l.b))
