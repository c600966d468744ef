-- `windowed_sinc_f32::narrow_row` meets its contract: after k turns the first k elements are rounded. Assumes nothing.
use Rattle.std.proofs.Common.{ℕ, length, get_or, map, sym, ◌∙◌, ap, arith}
use Rattle.std.specs.Float.{nan}
use Rattle.rounding.specs.Operations.{narrowed}
use Rattle.loop_laws.specs.Loops.{list_of}
use Rattle.loop_laws.proofs.Lists.{elements}
use Rattle.loop_laws.proofs.Mapped.{map-list}
use Rattle.loop_laws.proofs.Writing.{unwritten, written-more, all-written}
use Rattle.windowed_sinc_f32.proofs.narrow_row.Goals as goal
use Rattle.windowed_sinc_f32.proofs.narrow_row.Invariants.{rounded}

pub loop-k-init : goal.loop-k-init
loop-k-init c = unwritten

pub loop-k-preserved : goal.loop-k-preserved
loop-k-preserved c = written-more c.loop-k.invariant (omega arith) c.narrow.ensures

-- After the last turn every element is rounded.
pub returns : goal.returns
returns c =
    let from = c.args.from.now in
    all-written c.loop-k.invariant (omega arith)
    ∙ ap (list_of (rounded from)) (omega arith)
    ∙ sym (ap (map narrowed) (elements from nan) ∙ map-list narrowed (λ (k : ℕ). get_or from k nan) (length from))
