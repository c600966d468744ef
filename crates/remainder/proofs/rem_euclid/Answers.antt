-- `remainder::rem_euclid` meets its contract, by the laws of the fast paths, whose results are not below zero, or by
-- `remainder`. Assumes nothing.
use Rattle.std.proofs.Common.{sym}
use denote.Floats.{passes}
use lib.Ieee.{odd, of_fields, of_bits}
use Rattle.remainder.specs.Euclid.{rem_euclid}
use Rattle.remainder.proofs.AlreadyBelow.{euclid-below}
use Rattle.remainder.proofs.BelowTwice.{euclid-once}
use Rattle.remainder.proofs.TestCases.{refuted}
use Rattle.remainder.proofs.rem_euclid.Goals as goal

pub returns-then-x-y : goal.returns-then-x-y
unfolding odd of_fields of_bits
returns-then-x-y c =
    let a = c.args in
    sym (euclid-below a.x a.y (passes _ c.well_formed.0.1) (passes _ c.if-x.true)
    (passes _ c.if-x-y.true))

pub returns-then-d-y : goal.returns-then-d-y
unfolding odd of_fields of_bits
returns-then-d-y c =
    sym (euclid-once c.args.x c.args.y (passes _ c.well_formed.1.0.1) (passes _ c.if-y.true)
    (refuted c.if-x-y.false) (passes _ c.if-d-y.true))

pub returns-then-r : goal.returns-then-r
unfolding rem_euclid odd of_fields of_bits
returns-then-r c = rw (c.absolute.ensures, ← c.remainder-r.ensures, c.if-r.true)

pub returns-else-r : goal.returns-else-r
unfolding rem_euclid odd of_fields of_bits
returns-else-r c = rw (← c.remainder-r.ensures, c.if-r.false)
