-- `min_max::min_f32` meets its contract, by the laws of `chosen`: if one of two floats is below the other, neither is a
-- NaN. Assumes nothing.
use denote.Floats.{passes}
use Rattle.magnitude.proofs.Comparisons.{lt→le, le-numbers}
use Rattle.min_max.specs.Choice.{smaller}
use Rattle.min_max.proofs.Choices.{first, second, lone}
use Rattle.min_max.proofs.min_f32.Goals as goal

pub returns-then-a-b : goal.returns-then-a-b
unfolding smaller
returns-then-a-b c =
    let numbers =
    le-numbers c.args.a c.args.b
    (lt→le c.args.a c.args.b (passes _ c.if-a-b.true)) in
    first c.args.a c.args.b c.if-a-b.true numbers.0 numbers.1

pub returns-then-b : goal.returns-then-b
unfolding smaller
returns-then-b c = second c.args.a c.args.b c.if-a-b.false c.if-b.true

pub returns-else-b : goal.returns-else-b
unfolding smaller
returns-else-b c = lone c.args.a c.args.b c.if-a-b.false c.if-b.false
