use Rattle.std.proofs.Common.{◌≡◌, take}
use mathlib.Core.List.{foldl}
use Rattle.residual.specs.Report.{differences}
use Rattle.residual.specs.Blocks.{no_parts, part_of}
use Rattle.residual.proofs.parts.squared.Given as goal

abbrev pub invariant-loop-i : goal.invariant-loop-i
invariant-loop-i l = l.now ≡ foldl (part_of l.top) no_parts (take l.i (differences l.a l.b))
