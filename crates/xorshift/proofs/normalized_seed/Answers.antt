-- `xorshift::normalized_seed` meets its contract: each branch returns what the definition gives there. Assumes nothing.
use borrow.Author.Tests.{eq-eqb, ne_eqb}
use Rattle.xorshift.proofs.normalized_seed.Goals as goal

pub returns-then-seed-eq0 : goal.returns-then-seed-eq0
returns-then-seed-eq0 c = rw (eq-eqb _ _ c.if-seed-eq0.true)

pub returns-else-seed-eq0 : goal.returns-else-seed-eq0
returns-else-seed-eq0 c = rw (ne_eqb _ _ c.if-seed-eq0.false)
