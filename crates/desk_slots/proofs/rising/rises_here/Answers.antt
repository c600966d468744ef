-- `desk_slots::rising::rises_here` meets its contract, by its tests one after the other. Assumes nothing.
use borrow.Author.Tests.{le-leb, lt-leb, eq-eqb, ne_eqb}
use Rattle.desk_slots.proofs.rising.rises_here.Goals as goal

pub returns-then-mark-eq0 : goal.returns-then-mark-eq0
returns-then-mark-eq0 c = rw (eq-eqb _ _ c.if-mark-eq0.true)

pub returns-then-mark-ne4 : goal.returns-then-mark-ne4
returns-then-mark-ne4 c =
    rw (ne_eqb _ _ c.if-mark-eq0.false, le-leb _ _ c.if-mark-le7.true, ne_eqb _ _ c.if-mark-ne4.true)

pub returns-else-mark-ne4 : goal.returns-else-mark-ne4
returns-else-mark-ne4 c =
    rw (ne_eqb _ _ c.if-mark-eq0.false, le-leb _ _ c.if-mark-le7.true, eq-eqb _ _ c.if-mark-ne4.false)

pub returns-else-mark-le7 : goal.returns-else-mark-le7
returns-else-mark-le7 c = rw (ne_eqb _ _ c.if-mark-eq0.false, lt-leb _ _ c.if-mark-le7.false)
