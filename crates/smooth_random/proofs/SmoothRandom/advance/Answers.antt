-- `smooth_random::SmoothRandom::advance` meets its contract: its body is the definition, step by step. Assumes nothing.
use mathlib.Core.Path.{refl}
use Rattle.smooth_random.specs.Drift.{advanced}
use Rattle.smooth_random.proofs.SmoothRandom.advance.Goals as goal

pub returns : goal.returns
unfolding advanced
returns c = refl
