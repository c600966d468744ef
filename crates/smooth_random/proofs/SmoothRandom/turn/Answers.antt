-- `smooth_random::SmoothRandom::turn` meets its contract, draw by draw. Assumes nothing.
use Rattle.smooth_random.specs.Drift.{turned}
use Rattle.smooth_random.proofs.SmoothRandom.turn.Goals as goal

pub returns : goal.returns
unfolding turned
returns c = rw (c.scale-second.ensures, c.bipolar-first.ensures)
