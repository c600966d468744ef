-- `bank_choice::search::slower` meets its contract: the set's rate is the definition's. Assumes nothing.
use Rattle.bank_choice.proofs.search.slower.Goals as goal

pub returns : goal.returns
returns c = rw c.rate.ensures
