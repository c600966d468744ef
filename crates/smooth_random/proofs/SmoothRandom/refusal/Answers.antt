-- `smooth_random::SmoothRandom::refusal` meets its contract: each branch returns what the definition gives there.
-- Assumes nothing.
use Rattle.smooth_random.specs.Ranges.{verdict}
use Rattle.smooth_random.proofs.SmoothRandom.refusal.Goals as goal

pub returns-then-valid : goal.returns-then-valid
unfolding verdict
returns-then-valid c =
    rw (
      ← c.within.ensures,
      ← c.within-2.ensures,
      ← c.both-arguments.ensures,
      c.if-arguments.true,
      ← c.valid.ensures,
      c.if-valid.true,
    )

pub returns-else-valid : goal.returns-else-valid
unfolding verdict
returns-else-valid c =
    rw (
      ← c.within.ensures,
      ← c.within-2.ensures,
      ← c.both-arguments.ensures,
      c.if-arguments.true,
      ← c.valid.ensures,
      c.if-valid.false,
    )

pub returns-else-arguments : goal.returns-else-arguments
unfolding verdict
returns-else-arguments c =
    rw (
      ← c.within.ensures,
      ← c.within-2.ensures,
      ← c.both-arguments.ensures,
      c.if-arguments.false,
    )
