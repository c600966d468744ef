-- `aiff_samples::by_frame::fill_twos` meets its contract: the loop writes a list by a rule, and each sample lies in the
-- part. Assumes nothing.
use mathlib.Core.Path.{ap, ◌∙◌}
use native.Mathlib.Omega.{arith}
use Rattle.loop_laws.proofs.Writing.{unwritten, written-more, all-written}
use Rattle.wav_samples.proofs.Framing.{place}
use Rattle.aiff_samples.proofs.by_frame.fill_twos.Goals as goal

pub overflow_mul-k : goal.overflow_mul-k
overflow_mul-k g c = omega (arith, place c.loop-k.k c.requires.whole (omega arith))

pub overflow_add-k : goal.overflow_add-k
overflow_add-k g c = omega (arith, place c.loop-k.k c.requires.whole (omega arith))

pub two_at-requires : goal.two_at-requires
two_at-requires g c = omega (arith, place c.loop-k.k c.requires.whole (omega arith))

pub loop-k-init : goal.loop-k-init
loop-k-init g c = λ means h. unwritten

pub loop-k-preserved : goal.loop-k-preserved
loop-k-preserved g c = λ means h.
    written-more (c.loop-k.invariant means h) (omega arith)
    (h _ _ (omega arith) c.value.ensures ∙ ap means c.two_at.ensures)

pub returns : goal.returns
returns g c = λ means h. all-written (c.loop-k.invariant means h) (omega arith)
