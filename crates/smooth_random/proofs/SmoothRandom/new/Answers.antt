-- `smooth_random::SmoothRandom::new` meets its contract: `restarted` keeps only the initial seed of a state. Assumes
-- nothing.
use Rattle.smooth_random.proofs.SmoothRandom.new.Goals as goal

pub returns : goal.returns
returns c = rw (c.restarted.ensures, c.normalized_seed-seed.ensures)
