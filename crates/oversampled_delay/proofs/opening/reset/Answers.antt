-- `oversampled_delay::opening::reset` meets its contract: it is refused, or `clear` leaves what is lent. Assumes
-- nothing.
use Rattle.std.proofs.Common.{sym, ap, ◌∙◌}
use Rattle.variable_delay.proofs.Refused.{not-cleared}
use Rattle.oversampled_delay.specs.declared.Opened.TheVariants.{Reader}
use Rattle.oversampled_delay.proofs.Renewal.{not_opened, opened, cleared}
use Rattle.oversampled_delay.proofs.opening.reset.Goals as goal

pub returns-then-no-ne0 : goal.returns-then-no-ne0
returns-then-no-ne0 c =
    let a = c.args in
    let e = c.renewal_refusal-no.ensures in
    let w = c.renewal_refusal-no.result in
    let h = c.if-no-ne0.true in record {
      value = not_opened w e h a.state;
      up_after =
          not-cleared w e h a.up.now;
      down_after = not-cleared w e h a.down.now;
      ring_after = not-cleared w e h a.ring.now;
    }

pub returns : goal.returns
returns c =
    let a = c.args in
    let z = sym c.renewal_refusal-no.ensures ∙ c.if-no-ne0.false in
    record {
      value = ap Reader c.renewed.ensures ∙ opened z a.state;
      up_after =
          cleared z a.up.now c.clear.ensures;
      down_after = cleared z a.down.now c.clear-2.ensures;
      ring_after =
          cleared z a.ring.now c.clear-3.ensures;
    }
