-- `elementary::values::power_at` meets its contract: each branch is a part of `PowerParts`. Assumes nothing.
use mathlib.Core.Path.{sym, ap, subst}
use lib.Dec.{T}
use lib.Ieee.{binary64, mul, neg, of_bits}
use Rattle.elementary.specs.Answers.{two, half}
use Rattle.elementary.proofs.PowerParts.{power-above, power_below, power-middle}
use Rattle.elementary.proofs.values.power_at.Goals as goal

pub returns-then-x : goal.returns-then-x
unfolding of_bits
returns-then-x c =
    power-above c.args.x (subst T (sym c.well_formed.0.1) tt) c.requires c.if-x.true
    (ap (mul binary64 two) c.power_near.ensures)

pub returns-then-x-2 : goal.returns-then-x-2
unfolding neg of_bits
returns-then-x-2 c =
    power_below c.args.x (subst T (sym c.well_formed.0.1) tt) c.requires c.if-x.false
    c.if-x-2.true (ap (mul binary64 half) c.power_near-then-x-2.ensures)

pub returns-else-x-2 : goal.returns-else-x-2
unfolding neg of_bits
returns-else-x-2 c =
    power-middle c.args.x c.requires c.if-x.false c.if-x-2.false c.power_near-else-x-2.ensures
