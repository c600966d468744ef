-- `quality_variable_delay::cleared::clear` meets its contract: the tests that it makes leave no refusal,
-- by `CommonCall`. Assumes nothing.
use Rattle.std.proofs.Common.{sym, ap, ◌∙◌}
use Rattle.variable_delay_f32.proofs.CommonCall as passing
use Rattle.returning_fade.specs.Rules.{place_ok}
use Rattle.quality_variable_delay.proofs.CommonCall.{passes}
use Rattle.quality_variable_delay.proofs.cleared.clear.Goals as goal

pub returns-then-len-ne0 : goal.returns-then-len-ne0
returns-then-len-ne0 c =
    let a = c.args in
    λ h.
    let l = passing.filled _ _ _ c.length_for.result c.length_for.ensures c.if-len-ne0.true h in
    let f = c.in_range.ensures c.if-in_range.true in
    passes a.bank a.lent a.state a.len a.input a.delay a.playback_rate c.if-state-lt-LIMIT.true
    (sym c.length_ok.ensures ∙ c.if-length_ok.true)
    (ap place_ok (sym c.fading.ensures) ∙ sym c.place_ok.ensures ∙ c.if-place_ok.true)
    f.0 f.1 f.2 f.3
    l.0
    l.1
    c.if-bank.true
    c.if-lent.true

pub returns-else-len-ne0 : goal.returns-else-len-ne0
returns-else-len-ne0 c = passing.led-away

pub returns-else-in_range : goal.returns-else-in_range
returns-else-in_range c = passing.led-away

pub returns-else-place_ok : goal.returns-else-place_ok
returns-else-place_ok c = passing.led-away

pub returns-else-length_ok : goal.returns-else-length_ok
returns-else-length_ok c = passing.led-away

pub returns-else-state-lt-LIMIT : goal.returns-else-state-lt-LIMIT
returns-else-state-lt-LIMIT c = passing.led-away

pub returns-else-lent : goal.returns-else-lent
returns-else-lent c = passing.led-away

pub returns-else-bank : goal.returns-else-bank
returns-else-bank c = passing.led-away
