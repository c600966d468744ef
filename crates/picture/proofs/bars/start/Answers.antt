-- `picture::bars::start` meets its contract, by whether there are stretches. Assumes nothing.
use borrow.Author.Tests.{eq-eqb, ne_eqb}
use Rattle.picture.specs.Bars.{edge}
use Rattle.picture.proofs.bars.start.Goals as goal

pub returns-then-n-eq0 : goal.returns-then-n-eq0
unfolding edge
returns-then-n-eq0 c =
    rw (eq-eqb c.args.n 0 c.if-n-eq0.true)

pub returns : goal.returns
unfolding edge
returns c =
    rw (ne_eqb c.args.n 0 c.if-n-eq0.false)
