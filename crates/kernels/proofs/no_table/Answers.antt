-- `kernels::no_table` meets its contract, by whether the length is 0. Assumes nothing.
use borrow.Author.Tests.{eq-eqb, ne_eqb}
use Rattle.kernels.proofs.no_table.Goals as goal

pub returns-then-len-eq0 : goal.returns-then-len-eq0
returns-then-len-eq0 c = rw (eq-eqb _ _ c.if-len-eq0.true)

pub returns-else-len-eq0 : goal.returns-else-len-eq0
returns-else-len-eq0 c = rw (ne_eqb _ _ c.if-len-eq0.false)
