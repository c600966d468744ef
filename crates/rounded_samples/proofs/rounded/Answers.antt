-- `rounded_samples::rounded` meets its contract: it computes the stored digits, then the whole number that they mean.
-- Assumes nothing.
use mathlib.Core.Path.{ap, ◌∙◌}
use lib.Dec.{lit≤}
use Rattle.whole_samples.specs.Whole.{units_of}
use Rattle.whole_samples.proofs.Signs.{units_small, kept}
use Rattle.rounded_samples.proofs.rounded.Goals as goal

pub returns : goal.returns
returns c =
    kept c.whole24.ensures (units_small 24 c.stored24_f32.result (lit≤ tt) (lit≤ tt))
    ∙ ap (units_of 24) c.stored24_f32.ensures
