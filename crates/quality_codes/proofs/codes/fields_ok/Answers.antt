-- `quality_codes::codes::fields_ok` meets its contract: it makes the definition's tests, two by two. Assumes nothing.
use Rattle.quality_codes.proofs.codes.fields_ok.Goals as goal

pub returns : goal.returns
returns c = rw (c.both-3.ensures, c.both-2.ensures, c.both.ensures)
