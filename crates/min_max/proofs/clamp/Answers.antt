-- `min_max::clamp` meets its contract: the definition makes the tests of the code. Assumes nothing.
use Rattle.min_max.specs.Choice.{clamped}
use Rattle.min_max.proofs.clamp.Goals as goal

pub returns-then-x-low : goal.returns-then-x-low
unfolding clamped
returns-then-x-low c = rw c.if-x-low.true

pub returns-then-x-high : goal.returns-then-x-high
unfolding clamped
returns-then-x-high c = rw (c.if-x-low.false, c.if-x-high.true)

pub returns-else-x-high : goal.returns-else-x-high
unfolding clamped
returns-else-x-high c = rw (c.if-x-low.false, c.if-x-high.false)
