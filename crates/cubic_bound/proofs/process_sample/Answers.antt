-- `cubic_bound::process_sample` meets Demand 3: the reader that it calls answers as defined, and the definition meets
-- it. Assumes nothing.
use Rattle.cubic_bound.proofs.Demand.{demand3}
use Rattle.cubic_bound.proofs.process_sample.Goals as goal

pub returns : goal.returns
returns c = rw c.process_sample.ensures.value (demand3 _ _)
