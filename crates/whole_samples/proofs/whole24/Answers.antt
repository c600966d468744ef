-- `whole_samples::whole24` meets its contract: 24 bits are already in units of 2^-23. Assumes nothing.
use mathlib.Core.Path.{sym, ◌∙◌}
use lib.Dec.{lit≤}
use lib.IntN.{one, *ℤ-one}
use Rattle.whole_samples.specs.Whole.{signed}
use Rattle.whole_samples.proofs.Signs.{units_small, kept}
use Rattle.whole_samples.proofs.whole24.Goals as goal

pub returns : goal.returns
unfolding one
returns c = let n = c.args.n in kept (c.signed24.ensures ∙ sym (*ℤ-one (signed 24 n)))
    (units_small 24 n (lit≤ tt) (lit≤ tt))
