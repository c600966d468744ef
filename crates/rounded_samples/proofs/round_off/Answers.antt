-- `rounded_samples::round_off` meets its contract: the loop writes a list by a rule. Assumes nothing.
use mathlib.Core.Path.{ap, ◌∙◌}
use native.Mathlib.Omega.{arith}
use lib.Dec.{lit≤}
use Rattle.loop_laws.proofs.Writing.{unwritten, written-more, all-written}
use Rattle.sample_kind.specs.declared.SampleKind.TheVariants.{Pcm24}
use Rattle.stored_samples.specs.Stored.{word_of}
use Rattle.whole_samples.proofs.Signs.{units_small, kept}
use Rattle.rounded_samples.specs.Rounded.{rounded_of}
use Rattle.rounded_samples.proofs.round_off.Goals as goal

pub loop-k-preserved : goal.loop-k-preserved
loop-k-preserved c =
    let x = c.sample_at.result in
    written-more c.loop-k.invariant (omega arith)
    (kept c.rounded.ensures (units_small 24 (word_of Pcm24 x) (lit≤ tt) (lit≤ tt))
    ∙ ap rounded_of c.sample_at.ensures)

pub loop-k-init : goal.loop-k-init
loop-k-init c = unwritten

pub returns : goal.returns
returns c = all-written c.loop-k.invariant (omega arith)
