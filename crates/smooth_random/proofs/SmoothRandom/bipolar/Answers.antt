-- `smooth_random::SmoothRandom::bipolar` meets its contract, by those of `step` and `bipolar`. Assumes nothing.
use Rattle.smooth_random.proofs.SmoothRandom.bipolar.Goals as goal

pub returns : goal.returns
returns c = rw (c.bipolar.ensures, c.step-x.ensures)
