-- `cascaded_delay::refusals::refusal` meets its contract, by the law of `Tests`. Assumes nothing.
use Rattle.cascaded_delay.proofs.Tests.{due-is}
use Rattle.cascaded_delay.proofs.refusals.refusal.Goals as goal

pub returns : goal.returns
returns c =
    let a = c.args in
    rw (
      c.refusal.ensures,
      c.outer.ensures,
      c.both-lent.ensures,
      c.both.ensures,
      c.both-filters.ensures,
      c.held-kept.ensures,
      c.both-own.ensures,
    )
    (due-is a.kernel a.state a.lengths a.input a.delay c.inner_length-needed.ensures c.refusal-no.ensures)
