-- `near_fused::inside` meets its contract. Assumes nothing.
use Rattle.near_fused.proofs.inside.Goals as goal

pub returns-then-mu : goal.returns-then-mu
returns-then-mu c = rw c.if-mu.true

pub returns-else-mu : goal.returns-else-mu
returns-else-mu c = rw c.if-mu.false
