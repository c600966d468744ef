-- `aiff_turns::turn` meets its contract, by its three cases. Assumes nothing.
use mathlib.Core.Path.{◌∙◌}
use borrow.Author.Tests.{lt-leb, le-leb}
use Rattle.aiff_turns.proofs.turn.Goals as goal

pub returns-then-left-lt8 : goal.returns-then-left-lt8
returns-then-left-lt8 c = simp (lt-leb _ _ c.if-left-lt8.true)

pub returns-then-end-left : goal.returns-then-end-left
returns-then-end-left c = simp (le-leb _ _ c.if-left-lt8.false, lt-leb _ _ c.if-end-left.true)

pub returns : goal.returns
returns c =
    simp (le-leb _ _ c.if-left-lt8.false, le-leb _ _ c.if-end-left.false)
    (c.turn.ensures
    ∙ rw (c.form_sought.ensures, c.low_first_u32-id.ensures, c.four-size.ensures))
