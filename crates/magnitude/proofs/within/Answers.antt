-- `magnitude::within` meets its contract: the second test counts only if the first has passed. Assumes nothing.
use Rattle.magnitude.proofs.within.Goals as goal

pub returns-then-low-x : goal.returns-then-low-x
returns-then-low-x c = rw c.if-low-x.true

pub returns-else-low-x : goal.returns-else-low-x
returns-else-low-x c = rw c.if-low-x.false
