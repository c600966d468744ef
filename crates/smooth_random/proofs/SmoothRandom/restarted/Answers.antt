-- `smooth_random::SmoothRandom::restarted` meets its contract, draw by draw. Assumes nothing.
use Rattle.smooth_random.specs.Drift.{started}
use Rattle.smooth_random.proofs.SmoothRandom.restarted.Goals as goal

pub returns : goal.returns
unfolding started
returns c =
    rw (
      c.scale-third.ensures,
      c.bipolar-second.ensures,
      c.bipolar-first.ensures,
    )
