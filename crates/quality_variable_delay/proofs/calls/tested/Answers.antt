-- `quality_variable_delay::calls::tested` meets its contract: a call on the fast path is not refused, and for any other
-- the number is that of `due`. Assumes nothing.
use Rattle.std.proofs.Common.{sym}
use Rattle.quality_variable_delay.proofs.calls.tested.Goals as goal

pub returns-then-served : goal.returns-then-served
returns-then-served c = sym (c.served.ensures c.if-served.true)

pub returns : goal.returns
returns c = rw c.again.ensures at c.due.ensures
