-- `quality_variable_delay::served::served` meets its contract: the tests that it makes leave no refusal,
-- by `CommonCall`. Assumes nothing.
use Rattle.std.proofs.Common.{sym, ap, ◌∙◌}
use lib.Ieee.{of_bits}
use Rattle.variable_delay_f32.proofs.CommonCall.{led-away}
use Rattle.returning_fade.specs.Rules.{place_ok}
use Rattle.quality_variable_delay.proofs.CommonCall.{none-due}
use Rattle.quality_variable_delay.proofs.served.served.Goals as goal

pub returns-then-is_number : goal.returns-then-is_number
unfolding of_bits
returns-then-is_number c =
    let a = c.args in
    λ h.
    let l = c.filled.ensures h in
    none-due a.lent a.max_rate a.state a.len a.input a.delay a.playback_rate c.if-state-lt-LIMIT.true
    (sym c.length_ok.ensures ∙ c.if-length_ok.true)
    (ap place_ok (sym c.fading.ensures) ∙ sym c.place_ok.ensures ∙ c.if-place_ok.true)
    c.if-delay.true
    c.if-delay-2.true
    (sym c.is_finite_f32.ensures ∙ c.if-is_finite_f32.true)
    (sym c.is_number.ensures ∙ c.if-is_number.true)
    l.0
    l.1
    l.2
    l.3

pub returns-else-is_number : goal.returns-else-is_number
returns-else-is_number c = led-away

pub returns-else-is_finite_f32 : goal.returns-else-is_finite_f32
returns-else-is_finite_f32 c = led-away

pub returns-else-delay-2 : goal.returns-else-delay-2
returns-else-delay-2 c = led-away

pub returns-else-delay : goal.returns-else-delay
returns-else-delay c = led-away

pub returns-else-place_ok : goal.returns-else-place_ok
returns-else-place_ok c = led-away

pub returns-else-length_ok : goal.returns-else-length_ok
returns-else-length_ok c = led-away

pub returns-else-state-lt-LIMIT : goal.returns-else-state-lt-LIMIT
returns-else-state-lt-LIMIT c = led-away
