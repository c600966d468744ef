-- `remainder::remainder` meets its contract: the sign of the divisor does not matter, and that of the dividend is the
-- remainder's. Assumes nothing.
use lib.Ieee.{binary64, odd, of_fields, of_bits}
use Rattle.rounding.proofs.SumSymmetry.{neg-neg}
use Rattle.remainder.specs.Euclid as euclid
use Rattle.remainder.proofs.Remainders.{rem-absolute, rem-neg}
use Rattle.remainder.proofs.TestCases.{negative, not-below, refuted}
use Rattle.remainder.proofs.remainder.Goals as goal

pub above-requires : goal.above-requires
above-requires c =
    let a = c.args in
    record { fact_1 = rw (negative _ c.if-x.true) (not-below a.x); fact_2 = rw c.absolute-b.ensures (not-below a.y) }

pub above-requires-else-x : goal.above-requires-else-x
unfolding odd of_fields of_bits
above-requires-else-x c =
    record { fact_1 = refuted c.if-x.false; fact_2 = rw c.absolute-b.ensures (not-below c.args.y) }

pub returns-then-x : goal.returns-then-x
returns-then-x c =
    let x = c.args.x in
    let y = c.args.y in
    rw (c.above.ensures, c.absolute-b.ensures, rem-neg binary64 x (euclid.absolute_of y), neg-neg)
    (rem-absolute binary64 x y)

pub returns-else-x : goal.returns-else-x
returns-else-x c =
    let x = c.args.x in
    let y = c.args.y in
    rw (c.above-else-x.ensures, c.absolute-b.ensures) (rem-absolute binary64 x y)
