-- `modulation_sample::pairs` meets its contract: the second test counts only if the first has passed. Assumes nothing.
use Rattle.modulation_sample.proofs.pairs.Goals as goal

pub returns-then-same : goal.returns-then-same
returns-then-same c = rw (← c.same.ensures, c.if-same.true, c.same-then-same.ensures)

pub returns-else-same : goal.returns-else-same
returns-else-same c = rw (← c.same.ensures, c.if-same.false)
