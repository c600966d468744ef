-- `farrow8::steps::over` meets its contract: the quick result is right if it is finite, and otherwise the slow way is
-- taken. Assumes nothing.
use Rattle.farrow8.proofs.Horner.{sure}
use Rattle.farrow8.proofs.steps.over.Goals as goal

pub returns-then-is_finite : goal.returns-then-is_finite
returns-then-is_finite c = sure c.quick-r.ensures c.is_finite.ensures c.if-is_finite.true

pub returns : goal.returns
returns c = c.slow.ensures
