-- `quality_fade::ported::turn` meets its contract: the call is plain, or it is mixed and its place is below the length,
-- so that adding one cannot overflow. Assumes nothing.
use mathlib.Core.Path.{sym, ◌∙◌}
use Prim.Native.Nat.{◌<◌}
use native.Mathlib.Omega.{arith}
use borrow.Author.Tests.{le-leb, lt-leb}
use Rattle.quality_fade.proofs.ported.turn.Goals as goal
use Rattle.quality_fade.proofs.ported.turn.Goals.{then-state-weight, else-state-weight}

pub returns-then-plain : goal.returns-then-plain
returns-then-plain c = rw (sym c.plain.ensures ∙ c.if-plain.true) (rw c.left.ensures)

pub overflow_add-weight : goal.overflow_add-weight
overflow_add-weight c =
    let s = c.args.state in
    let below : s.crossfade_position < s.crossfade_samples =
    c.requires (sym c.plain.ensures ∙ c.if-plain.false) in
    omega arith

pub returns : goal.returns
returns c =
    rw (sym c.plain.ensures ∙ c.if-plain.false) (rw c.left-2.ensures
    (elim c.if-state-weight.branch [
      | then-state-weight w ↦ rw (w.next-is, le-leb _ _ w.if-state-weight.true)
      | else-state-weight w ↦ rw (w.next-is, lt-leb _ _ w.if-state-weight.false)
    ]))
