-- `coded_stretch::odd` meets its contract, by its two choices. Assumes nothing.
use Rattle.coded_stretch.proofs.odd.Goals as goal

pub returns : goal.returns
returns c = rw (c.number.ensures, c.number-early.ensures, c.both.ensures)
