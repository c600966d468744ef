-- `cascaded_delay::opening::reset` meets its contract: it is refused, or `clear` leaves what is lent. Assumes nothing.
use mathlib.Core.Path.{sym, ap, ◌∙◌}
use Rattle.variable_delay.proofs.Refused.{not-cleared}
use Rattle.cascaded_delay.specs.declared.Opened.TheVariants.{Reader}
use Rattle.cascaded_delay.proofs.Renewal.{not_opened, opened, cleared}
use Rattle.cascaded_delay.proofs.opening.reset.Goals as goal

pub returns-then-no-ne0 : goal.returns-then-no-ne0
returns-then-no-ne0 c =
    let a = c.args in
    let e = c.renewal_refusal-no.ensures in
    let w = c.renewal_refusal-no.result in
    let h = c.if-no-ne0.true in record {
      value = not_opened w e h a.state;
      up1_after =
          not-cleared w e h a.up1.now;
      up2_after = not-cleared w e h a.up2.now;
      down2_after =
          not-cleared w e h a.down2.now;
      down1_after = not-cleared w e h a.down1.now;
      ring_after =
          not-cleared w e h a.ring.now;
    }

pub returns : goal.returns
returns c =
    let a = c.args in
    let z = sym c.renewal_refusal-no.ensures ∙ c.if-no-ne0.false in
    record {
      value = ap Reader c.renewed.ensures ∙ opened z a.state;
      up1_after =
          cleared z a.up1.now c.clear.ensures;
      up2_after = cleared z a.up2.now c.clear-2.ensures;
      down2_after =
          cleared z a.down2.now c.clear-3.ensures;
      down1_after = cleared z a.down1.now c.clear-4.ensures;
      ring_after =
          cleared z a.ring.now c.clear-5.ensures;
    }
