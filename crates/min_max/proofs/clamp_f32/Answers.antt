-- `min_max::clamp_f32` meets its contract: the definition makes the tests of the code. Assumes nothing.
use Rattle.min_max.specs.Choice.{clamped}
use Rattle.min_max.proofs.clamp_f32.Goals as goal

pub returns-then-a-low : goal.returns-then-a-low
unfolding clamped
returns-then-a-low c = rw c.if-a-low.true

pub returns-then-a-high : goal.returns-then-a-high
unfolding clamped
returns-then-a-high c = rw (c.if-a-low.false, c.if-a-high.true)

pub returns-else-a-high : goal.returns-else-a-high
unfolding clamped
returns-else-a-high c = rw (c.if-a-low.false, c.if-a-high.false)
