-- `min_max::min` meets its contract, by the laws of `chosen`: if one of two floats is below the other, neither is a
-- NaN. Assumes nothing.
use denote.Floats.{passes}
use Rattle.magnitude.proofs.Comparisons.{lt→le, le-numbers}
use Rattle.min_max.specs.Choice.{smaller}
use Rattle.min_max.proofs.Choices.{first, second, lone}
use Rattle.min_max.proofs.min.Goals as goal

pub returns-then-x-most : goal.returns-then-x-most
unfolding smaller
returns-then-x-most c =
    let numbers =
    le-numbers c.args.x c.args.most
    (lt→le c.args.x c.args.most (passes _ c.if-x-most.true)) in
    first c.args.x c.args.most c.if-x-most.true numbers.0 numbers.1

pub returns-then-most : goal.returns-then-most
unfolding smaller
returns-then-most c = second c.args.x c.args.most c.if-x-most.false c.if-most.true

pub returns-else-most : goal.returns-else-most
unfolding smaller
returns-else-most c = lone c.args.x c.args.most c.if-x-most.false c.if-most.false
