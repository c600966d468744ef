-- `bank_choice::search::guess` meets its contract: whatever the floor is, the result is the number of a set. Assumes
-- nothing.
use Rattle.ring.proofs.RunStartWays.{fits}
use Rattle.bank_choice.proofs.search.guess.Goals as goal

pub overflow_cast-g : goal.overflow_cast-g
overflow_cast-g c = fits c.floor-x.result (record { sfits = c.floor-x.type_inv }) c.if-x-lt0.false
