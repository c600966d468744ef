-- `riff_chunks::turns::left_after` meets its contract, by its cases. Assumes nothing.
use mathlib.Core.Path.{sym, ◌∙◌}
use native.Mathlib.Omega.{arith}
use borrow.Author.Tests.{lt-ltb, le-ltb}
use Rattle.riff_chunks.proofs.turns.left_after.Goals as goal

pub returns-then-is_last : goal.returns-then-is_last
returns-then-is_last c = rw (sym c.is_last.ensures ∙ c.if-is_last.true)

pub returns-then-room-c : goal.returns-then-room-c
returns-then-room-c c =
    rw (sym c.is_last.ensures ∙ c.if-is_last.false, lt-ltb _ _ c.if-room-c.true)

pub returns-then-rest-eq0 : goal.returns-then-rest-eq0
returns-then-rest-eq0 c =
    rw (sym c.is_last.ensures ∙ c.if-is_last.false, le-ltb _ _ c.if-room-c.false) (omega arith)

pub returns-else-rest-eq0 : goal.returns-else-rest-eq0
returns-else-rest-eq0 c =
    let p = c.pad.ensures in
    rw (sym c.is_last.ensures ∙ c.if-is_last.false, le-ltb _ _ c.if-room-c.false) (omega arith)
