-- `quality_variable_delay::served::filled` meets its contract: a length that is not 0 is that of settings in range.
-- Assumes nothing.
use Rattle.std.proofs.Common.{eq-eqb}
use Rattle.variable_delay_f32.proofs.CommonCall as passing
use Rattle.quality_variable_delay.proofs.served.filled.Goals as goal

pub returns-then-len-length_for : goal.returns-then-len-length_for
returns-then-len-length_for c =
    λ h.
    let r =
    passing.filled _ _ _ c.length_for.result c.length_for.ensures c.if-len-ne0.true
    (eq-eqb _ _ c.if-len-length_for.true) in
    let b = passing.filled _ _ _ c.bank_length.result c.bank_length.ensures c.if-lent-ne0.true h in
    (r.0, r.1, b.0, b.1)

pub returns-else-len-length_for : goal.returns-else-len-length_for
returns-else-len-length_for c = passing.led-away

pub returns-else-lent-ne0 : goal.returns-else-lent-ne0
returns-else-lent-ne0 c = passing.led-away

pub returns-else-len-ne0 : goal.returns-else-len-ne0
returns-else-len-ne0 c = passing.led-away
