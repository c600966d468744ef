-- `quality_variable_delay::opening::reset` meets its contract, by its refusal or by the ring that `clear_f32` leaves
-- and the state that `renew` gives. Assumes nothing.
use Rattle.std.proofs.Common.{sym, ◌∙◌}
use Rattle.variable_delay.proofs.Refused.{not-cleared}
use Rattle.quality_variable_delay.proofs.Refused.{not_opened}
use Rattle.quality_variable_delay.proofs.opening.reset.Goals as goal

pub returns-then-no-ne0 : goal.returns-then-no-ne0
returns-then-no-ne0 c =
    let e = c.reset_refusal-no.ensures in
    record { value = not_opened _ e c.if-no-ne0.true _; ring_after = not-cleared _ e c.if-no-ne0.true _ }

pub returns : goal.returns
returns c =
    let none = sym c.reset_refusal-no.ensures ∙ c.if-no-ne0.false in
    record { value = rw (none, c.renew-state.ensures); ring_after = rw none c.clear_f32.ensures }
