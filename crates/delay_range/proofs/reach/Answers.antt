-- `delay_range::reach` meets its contract: it is the sum of two excursions. Assumes nothing.
use Rattle.delay_range.specs.Reach.{reach_of}
use Rattle.delay_range.proofs.reach.Goals as goal

pub returns : goal.returns
unfolding reach_of
returns c = rw (c.excursion-flutter.ensures, c.excursion-wow.ensures)
