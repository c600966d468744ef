-- `smooth_random::SmoothRandom::seeded` meets its contract: each branch returns what the definition gives there.
-- Assumes nothing.
use borrow.Author.Tests.{eq-eqb, ne_eqb}
use Rattle.smooth_random.proofs.SmoothRandom.seeded.Goals as goal

pub returns-then-seed-self : goal.returns-then-seed-self
returns-then-seed-self c = rw (← c.normalized_seed-seed.ensures, eq-eqb _ _ c.if-seed-self.true)

pub returns : goal.returns
returns c =
    rw (c.restarted.ensures, ← c.normalized_seed-seed.ensures, ne_eqb _ _ c.if-seed-self.false)
