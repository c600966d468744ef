-- `oversampled_delay::opening::renewal_refusal` meets its contract, by the law of `Tests`. Assumes nothing.
use Rattle.oversampled_delay.proofs.Tests.{reset-is}
use Rattle.oversampled_delay.proofs.opening.renewal_refusal.Goals as goal

pub returns : goal.returns
returns c =
    let a = c.args in
    rw (
      c.reset_refusal.ensures,
      c.outer.ensures,
      c.both-2.ensures,
      c.both-held.ensures,
      c.both.ensures,
      c.both-own.ensures,
      c.taps_ok.ensures,
    )
    (reset-is a.designed a.state a.up a.down a.ring c.inner_length-needed.ensures
    c.history_length-history.ensures)
