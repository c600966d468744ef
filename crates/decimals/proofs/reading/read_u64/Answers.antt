-- `decimals::read_u64` meets its contract, by that of `digits`. Assumes nothing.
use borrow.Author.Tests.{eq-eqb, ne_eqb}
use Rattle.decimals.proofs.reading.read_u64.Goals as goal

pub returns-then-text-eq0 : goal.returns-then-text-eq0
returns-then-text-eq0 c = simp (eq-eqb _ _ c.if-text-eq0.true)

pub returns : goal.returns
returns c = simp (ne_eqb _ _ c.if-text-eq0.false) c.digits.ensures
