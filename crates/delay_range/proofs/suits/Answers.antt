-- `delay_range::suits` meets its contract, by that of `within`. Assumes nothing.
use Rattle.delay_range.specs.Reach.{suits_of}
use Rattle.delay_range.proofs.suits.Goals as goal

pub returns : goal.returns
unfolding suits_of
returns c = c.within.ensures
