-- `residual_report::comparing::compare` ends: each block has a frame at least. Assumes nothing.
use Prim.Native.Nat.{◌-◌}
use Rattle.residual_report.proofs.comparing.compare.Given as goal

abbrev pub decreases-loop-done : goal.decreases-loop-done
decreases-loop-done l = l.frames - l.done
