-- `elementary::inside` meets its contract: each branch is the second test, or false. Assumes nothing.
use lib.Ieee.{of_bits}
use Rattle.elementary.proofs.inside.Goals as goal

pub returns-then-x-b : goal.returns-then-x-b
unfolding of_bits
returns-then-x-b c = rw c.if-x-b.true

pub returns-else-x-b : goal.returns-else-x-b
unfolding of_bits
returns-else-x-b c = rw c.if-x-b.false
