-- `smooth_random::SmoothRandom::valid` meets its contract, test by test. Assumes nothing.
use Rattle.smooth_random.specs.Ranges.{valid_of}
use Rattle.smooth_random.proofs.SmoothRandom.valid.Goals as goal

pub returns : goal.returns
unfolding valid_of
returns c =
    rw (
      c.both-3.ensures,
      c.both-2.ensures,
      c.both.ensures,
      c.both-seeds.ensures,
      c.within-pace.ensures,
      c.both-targets.ensures,
      c.within-2.ensures,
      c.within.ensures,
      c.both-position.ensures,
    )
