-- `wav_samples::by_frame::fill_by` meets its contract: the loop writes a list by a rule, and each sample lies in the
-- part. Assumes nothing.
use mathlib.Core.Path.{ap, ◌∙◌}
use native.Mathlib.Omega.{arith}
use Rattle.loop_laws.proofs.Writing.{unwritten, written-more, all-written}
use Rattle.wav_samples.proofs.by_frame.fill_by.Goals as goal

pub loop-k-init : goal.loop-k-init
loop-k-init g c = λ means h. unwritten

pub loop-k-preserved : goal.loop-k-preserved
loop-k-preserved g c = λ means h.
    written-more (c.loop-k.invariant means h) (omega arith)
    (h _ _ (omega arith) c.value.ensures ∙ ap means c.number_at.ensures)

pub returns : goal.returns
returns g c = λ means h. all-written (c.loop-k.invariant means h) (omega arith)
