-- `quality_variable_delay::cleared::number` meets its contract: a call on the fast path is not refused, and for any
-- other the number is that of `refusal`. Assumes nothing.
use Rattle.std.proofs.Common.{sym}
use Rattle.quality_variable_delay.proofs.cleared.number.Goals as goal

pub returns-then-clear : goal.returns-then-clear
returns-then-clear c = sym (c.clear.ensures c.if-clear.true)

pub returns : goal.returns
returns c = rw c.again.ensures at c.refusal.ensures
