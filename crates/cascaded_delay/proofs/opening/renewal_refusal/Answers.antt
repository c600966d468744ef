-- `cascaded_delay::opening::renewal_refusal` meets its contract, by the law of `Tests`. Assumes nothing.
use Rattle.cascaded_delay.proofs.Tests.{renew-is}
use Rattle.cascaded_delay.proofs.opening.renewal_refusal.Goals as goal

pub returns : goal.returns
returns c =
    let a = c.args in
    rw (c.reset_refusal.ensures, c.outer.ensures, c.both.ensures, c.held-kept.ensures)
    (renew-is a.designed a.state a.up1 a.up2 a.down2 a.down1 a.ring c.inner_length-needed.ensures)
