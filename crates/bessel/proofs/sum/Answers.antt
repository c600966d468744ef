-- `bessel::sum` meets its contract: it is the series with the number of terms of the mode. Assumes nothing.
use Rattle.bessel.proofs.sum.Goals as goal

pub returns : goal.returns
returns c = rw (← c.terms.ensures) c.series.ensures
