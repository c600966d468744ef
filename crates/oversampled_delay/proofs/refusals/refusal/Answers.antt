-- `oversampled_delay::refusals::refusal` meets its contract, by the law of `Tests`. Assumes nothing.
use Rattle.oversampled_delay.proofs.Tests.{due-is}
use Rattle.oversampled_delay.proofs.refusals.refusal.Goals as goal

pub returns : goal.returns
returns c =
    let a = c.args in
    rw (
      c.refusal.ensures,
      c.outer.ensures,
      c.both-lent.ensures,
      c.both-3.ensures,
      c.both-held.ensures,
      c.both-2.ensures,
      c.both-own.ensures,
      c.both.ensures,
      c.taps_ok.ensures,
    )
    (due-is a.kernel a.state a.lengths a.input a.delay c.inner_length-needed.ensures
    c.history_length-history.ensures c.refusal-no.ensures)
