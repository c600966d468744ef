-- `smooth_random::SmoothRandom::random_segment_rate_scale` meets its contract: `answered` hands the draw on or refuses.
-- Assumes nothing.
use Rattle.smooth_random.proofs.SmoothRandom.random_segment_rate_scale.Goals as goal

pub returns : goal.returns
returns c = rw (c.answered.ensures, c.scale.ensures)
