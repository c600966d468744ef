-- `remainder::above` meets its contract, case by case. Assumes nothing.
use Rattle.std.proofs.Common.{sym}
use denote.Floats.{passes}
use lib.Ieee.{binary64}
use Rattle.remainder.proofs.AlreadyBelow.{rem_below}
use Rattle.remainder.proofs.TestCases.{nothing-to-divide, endless, dividing}
use Rattle.remainder.proofs.above.Goals as goal

pub returns-then-a-b : goal.returns-then-a-b
returns-then-a-b c =
    sym (rem_below binary64 _ _ (passes _ c.well_formed.0.1) c.requires.fact_1 (passes _ c.if-a-b.true))

pub divided-requires : goal.divided-requires
divided-requires c = dividing _ _ c.if-a-b.false c.if-b.true c.if-a.true

pub returns-then-b : goal.returns-then-b
returns-then-b c =
    endless c.args.a c.args.b
    c.requires.fact_1 c.if-a.false

pub returns : goal.returns
returns c =
    nothing-to-divide c.args.a c.args.b c.requires.fact_2
    c.if-b.false
