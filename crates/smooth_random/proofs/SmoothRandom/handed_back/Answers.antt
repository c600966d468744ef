-- `smooth_random::SmoothRandom::handed_back` meets its contract: each branch returns what the definition gives there.
-- Assumes nothing.
use Rattle.smooth_random.proofs.SmoothRandom.handed_back.Goals as goal

pub returns-then-valid : goal.returns-then-valid
returns-then-valid c = rw (← c.valid.ensures, c.if-valid.true)

pub returns-else-valid : goal.returns-else-valid
returns-else-valid c = rw (← c.valid.ensures, c.if-valid.false)
