-- `fugnadri_residual::place_from` meets its contract, by the two tests. Assumes nothing.
use borrow.Author.Tests.{eq-eqb, ne_eqb}
use Rattle.fugnadri_residual.proofs.place_from.Goals as goal

pub returns-then-placed-eq0 : goal.returns-then-placed-eq0
returns-then-placed-eq0 c = rw (eq-eqb c.args.placed 0 c.if-placed-eq0.true)

pub returns-then-placed-eq1 : goal.returns-then-placed-eq1
returns-then-placed-eq1 c =
    let placed = c.args.placed in
    rw (ne_eqb placed 0 c.if-placed-eq0.false, eq-eqb placed 1 c.if-placed-eq1.true)

pub returns : goal.returns
returns c =
    let placed = c.args.placed in
    rw (ne_eqb placed 0 c.if-placed-eq0.false, ne_eqb placed 1 c.if-placed-eq1.false)
