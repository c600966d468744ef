-- `integer_part::truncated` meets its contract: between the ends the library casts, and the laws of `CastEnds` give the
-- rest. Assumes nothing.
use denote.Floats.{passes}
use lib.Ieee.{neg, of_bits}
use Rattle.integer_part.proofs.CastEnds.{above, under, unordered}
use Rattle.integer_part.proofs.truncated.Goals as goal

pub truncating_f64_to_i64-requires : goal.truncating_f64_to_i64-requires
unfolding neg of_bits
truncating_f64_to_i64-requires c =
    record { lower_bound = passes _ c.if-x-2.true; upper_bound = passes _ c.if-x.true }

pub returns-then-x : goal.returns-then-x
unfolding neg of_bits
returns-then-x c = under c.args.x c.if-x.true c.if-x-2.false

pub returns-then-x-3 : goal.returns-then-x-3
unfolding of_bits
returns-then-x-3 c = above c.args.x c.if-x.false c.if-x-3.true

pub returns-else-x-3 : goal.returns-else-x-3
returns-else-x-3 c = unordered c.args.x c.if-x-3.false
