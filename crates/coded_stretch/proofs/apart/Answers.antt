-- `coded_stretch::apart` meets its contract: it takes the parts one after the other. Assumes nothing.
use Rattle.coded_stretch.proofs.apart.Goals as goal

pub returns : goal.returns
returns c = rw c.encode.ensures
