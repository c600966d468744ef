-- `wav_samples::no_nan::gathered` meets its contract: the loop writes a list by a rule, and each turn adds one pattern
-- to the bitwise or. Assumes nothing.
use native.Mathlib.Omega.{arith}
use Rattle.loop_laws.proofs.Writing.{unwritten, written-more}
use Rattle.wav_samples.proofs.Blocks.{no-pattern, one_more}
use Rattle.wav_samples.proofs.no_nan.gathered.Goals as goal

pub loop-k-init : goal.loop-k-init
loop-k-init c = (unwritten, no-pattern _ _)

pub loop-k-preserved : goal.loop-k-preserved
loop-k-preserved c =
    let i = c.loop-k.invariant in (
      written-more i.0 (omega arith) c.four_at-n.ensures,
      one_more _ _ _ c.four_at-n.ensures _ i.1,
    )
