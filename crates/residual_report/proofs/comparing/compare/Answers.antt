-- `residual_report::comparing::compare` ends: each block has a frame at least. Assumes nothing.
use Rattle.std.proofs.Common.{ℕ, ◌<◌, arith}
use Rattle.std.proofs.lemmas.Bool.Decides.{nat_tests}
use Rattle.compared_frames.specs.Compared.{block_of}
use Rattle.residual_report.proofs.comparing.compare.Goals as goal

some : (left : ℕ) → 0 < block_of left
unfolding block_of
some left = grind (arith, nat_tests)

pub loop-done-smaller : goal.loop-done-smaller
loop-done-smaller c = omega (arith, some)
