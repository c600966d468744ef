-- `peaks::largest` meets its contract, by whether the residual refuses. Assumes nothing.
use Rattle.peaks.specs.Peaks.{largest_of}
use Rattle.peaks.proofs.largest.Goals as goal

pub returns-in-Carried : goal.returns-in-Carried
unfolding largest_of
returns-in-Carried c =
    rw (← c.empty.ensures, ← c.compare-compared.ensures, c.in-Carried.is)

pub returns-in-Refused : goal.returns-in-Refused
unfolding largest_of
returns-in-Refused c =
    rw (← c.empty.ensures, ← c.compare-compared.ensures, c.in-Refused.is)
