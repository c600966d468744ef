-- `sinc_row::coefficient` meets its contract: the answer of `sinc` is the definition's. Assumes nothing.
use Rattle.sinc_row.proofs.coefficient.Goals as goal

pub returns : goal.returns
returns c = rw c.sinc.ensures
