-- `smooth_random::SmoothRandom::value` meets its contract: its operations are the definition's, in the same order.
-- Assumes nothing.
use Rattle.smooth_random.specs.Drift.{quintic_of, value_at}
use Rattle.smooth_random.proofs.SmoothRandom.value.Goals as goal

pub returns : goal.returns
unfolding value_at quintic_of
returns c = rw c.clamp-t.ensures
