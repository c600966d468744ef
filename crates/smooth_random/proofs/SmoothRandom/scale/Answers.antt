-- `smooth_random::SmoothRandom::scale` meets its contract, by those of `step` and `scale`. Assumes nothing.
use Rattle.smooth_random.proofs.SmoothRandom.scale.Goals as goal

pub returns : goal.returns
returns c = rw (c.scale.ensures, c.step-y.ensures)
