-- `oversampled_delay::calls::start` meets its contract, by whether a call was accepted. Assumes nothing.
use Rattle.std.proofs.Common.{eq-eqb, ne_eqb}
use Rattle.oversampled_delay.proofs.calls.start.Goals as goal

pub returns-then-state-eq0 : goal.returns-then-state-eq0
returns-then-state-eq0 c = rw (eq-eqb _ _ c.if-state-eq0.true)

pub returns-else-state-eq0 : goal.returns-else-state-eq0
returns-else-state-eq0 c = rw (ne_eqb _ _ c.if-state-eq0.false)
