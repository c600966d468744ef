-- `variable_delay::reset` meets its contract: it is refused, or `clear` leaves the ring, as in either width. Assumes
-- nothing.
use Rattle.variable_delay.proofs.Resets.{not-reset, anew}
use Rattle.variable_delay.proofs.opening.reset.Goals as goal

pub returns-then-no-ne0 : goal.returns-then-no-ne0
returns-then-no-ne0 c =
    let s = c.args in
    let r = not-reset s.state s.ring.now c.length_for-needed.ensures c.first-no.ensures c.if-no-ne0.true in
    record { value = r.0; ring_after = r.1 }

pub returns : goal.returns
returns c =
    let s = c.args in
    let r = anew s.state s.ring.now c.length_for-needed.ensures c.first-no.ensures c.if-no-ne0.false c.clear.ensures in
    record { value = r.0; ring_after = r.1 }
