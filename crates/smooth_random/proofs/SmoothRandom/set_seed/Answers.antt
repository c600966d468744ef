-- `smooth_random::SmoothRandom::set_seed` meets its contract: `handed_back` hands the new state on or refuses. Assumes
-- nothing.
use Rattle.smooth_random.proofs.SmoothRandom.set_seed.Goals as goal

pub returns : goal.returns
returns c = rw (c.handed_back.ensures, c.seeded.ensures)
