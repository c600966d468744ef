-- `outcomes::side_of` meets its contract, by whether the place is even. Assumes nothing.
use borrow.Author.Tests.{eq-eqb, ne_eqb}
use Prim.Native.Nat.{◌%◌}
use Rattle.outcomes.specs.Outcomes.{side_of}
use Rattle.outcomes.proofs.side_of.Goals as goal

pub returns-then-at-eq0 : goal.returns-then-at-eq0
unfolding side_of
returns-then-at-eq0 c = rw (eq-eqb (c.args.at % 2) 0 c.if-at-eq0.true)

pub returns-else-at-eq0 : goal.returns-else-at-eq0
unfolding side_of
returns-else-at-eq0 c = rw (ne_eqb (c.args.at % 2) 0 c.if-at-eq0.false)
