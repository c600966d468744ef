-- `min_max::max` meets its contract, by the laws of `chosen`: if one of two floats is below the other, neither is a
-- NaN. Assumes nothing.
use denote.Floats.{passes}
use Rattle.magnitude.proofs.Comparisons.{lt→le, le-numbers}
use Rattle.min_max.specs.Choice.{larger}
use Rattle.min_max.proofs.Choices.{first, second, lone}
use Rattle.min_max.proofs.max.Goals as goal

pub returns-then-x-least : goal.returns-then-x-least
unfolding larger
returns-then-x-least c =
    let numbers =
    le-numbers c.args.least c.args.x
    (lt→le c.args.least c.args.x (passes _ c.if-x-least.true)) in
    first c.args.x c.args.least c.if-x-least.true numbers.1 numbers.0

pub returns-then-least : goal.returns-then-least
unfolding larger
returns-then-least c =
    second c.args.x c.args.least c.if-x-least.false c.if-least.true

pub returns-else-least : goal.returns-else-least
unfolding larger
returns-else-least c = lone c.args.x c.args.least c.if-x-least.false c.if-least.false
