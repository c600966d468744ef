-- `cascaded_delay::refusals::held` meets its contract: each test is the definition's. Assumes nothing.
use Rattle.cascaded_delay.proofs.refusals.held.Goals as goal

pub returns : goal.returns
returns c =
    rw (
      c.both-2.ensures,
      c.both.ensures,
      c.both-ups.ensures,
      c.both-downs.ensures,
    )
