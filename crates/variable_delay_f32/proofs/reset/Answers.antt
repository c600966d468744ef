-- `variable_delay_f32::reset` meets its contract: it is refused, or `clear_f32` leaves the ring, as in either width.
-- Assumes nothing.
use Rattle.variable_delay.proofs.Resets.{not-reset, anew}
use Rattle.variable_delay_f32.proofs.reset.Goals as goal

pub returns-then-no-ne0 : goal.returns-then-no-ne0
returns-then-no-ne0 c =
    let s = c.args in
    let both = not-reset s.state s.ring.now c.length_for-needed.ensures c.first-no.ensures c.if-no-ne0.true in
    record { value = both.0; ring_after = both.1 }

pub returns : goal.returns
returns c =
    let s = c.args in
    let both = anew s.state s.ring.now c.length_for-needed.ensures c.first-no.ensures c.if-no-ne0.false
    c.clear_f32.ensures in
    record { value = both.0; ring_after = both.1 }
