-- `sizes::quotient` meets its contract, by whether the divisor is 0. Assumes nothing.
use borrow.Author.Tests.{eq-eqb, ne_eqb}
use Rattle.sizes.proofs.quotient.Goals as goal

pub returns-then-b-eq0 : goal.returns-then-b-eq0
returns-then-b-eq0 c = rw (eq-eqb c.args.b 0 c.if-b-eq0.true)

pub returns-else-b-eq0 : goal.returns-else-b-eq0
returns-else-b-eq0 c = rw (ne_eqb c.args.b 0 c.if-b-eq0.false)
