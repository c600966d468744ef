-- `wav_samples::no_nan::together` meets its contract: each turn adds one pattern to the bitwise or. Assumes nothing.
use Rattle.wav_samples.proofs.Blocks.{no-pattern, one_more}
use Rattle.wav_samples.proofs.no_nan.together.Goals as goal

pub loop-k-init : goal.loop-k-init
loop-k-init c = no-pattern _ _

pub loop-k-preserved : goal.loop-k-preserved
loop-k-preserved c = one_more _ _ _ c.four_at-all.ensures _ c.loop-k.invariant
