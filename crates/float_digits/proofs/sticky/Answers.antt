-- `float_digits::sticky` meets its contract. Assumes nothing.
use native.Mathlib.Omega.{arith}
use borrow.Author.Tests.{eq-eqb, ne_eqb}
use lib.Bits.{or_add_and, and_mask}
use Rattle.float_digits.proofs.sticky.Goals as goal

pub returns-then-rest-eq0 : goal.returns-then-rest-eq0
returns-then-rest-eq0 c = rw (eq-eqb c.args.rest 0 c.if-rest-eq0.true)

pub returns-else-rest-eq0 : goal.returns-else-rest-eq0
returns-else-rest-eq0 c =
    let w = c.args.w in
    rw (ne_eqb c.args.rest 0 c.if-rest-eq0.false) (omega (arith, or_add_and w 1, and_mask w 1))
