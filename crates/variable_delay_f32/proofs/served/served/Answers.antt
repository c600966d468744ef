-- `variable_delay_f32::served::served` meets its contract: if its tests pass nothing is refused, by `CommonCall`.
-- Assumes nothing.
use mathlib.Core.Path.{sym, ◌∙◌}
use lib.Ieee.{of_bits}
use Rattle.variable_delay_f32.proofs.CommonCall.{none-due, led-away}
use Rattle.variable_delay_f32.proofs.served.served.Goals as goal

pub returns-then-len-ne0 : goal.returns-then-len-ne0
unfolding of_bits
returns-then-len-ne0 c =
    let a = c.args in
    λ h. none-due a.own a.lent a.state a.len a.input a.delay c.length_for.result c.if-own.true
    c.if-lent.true c.if-state-lt-LIMIT.true c.if-delay.true c.if-delay-2.true
    (sym c.is_finite_f32.ensures ∙ c.if-is_finite_f32.true) c.if-len-ne0.true c.length_for.ensures h

pub returns-else-len-ne0 : goal.returns-else-len-ne0
returns-else-len-ne0 c = led-away

pub returns-else-is_finite_f32 : goal.returns-else-is_finite_f32
returns-else-is_finite_f32 c = led-away

pub returns-else-delay-2 : goal.returns-else-delay-2
returns-else-delay-2 c = led-away

pub returns-else-delay : goal.returns-else-delay
returns-else-delay c = led-away

pub returns-else-state-lt-LIMIT : goal.returns-else-state-lt-LIMIT
returns-else-state-lt-LIMIT c = led-away

pub returns-else-lent : goal.returns-else-lent
returns-else-lent c = led-away

pub returns-else-own : goal.returns-else-own
returns-else-own c = led-away
