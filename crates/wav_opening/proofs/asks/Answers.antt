-- `wav_opening::asks` meets its contract, by its cases. Assumes nothing.
use borrow.Author.Rules.{rules}
use borrow.Author.Tests.{lt-leb, le-leb}
use Rattle.wav_opening.proofs.asks.Goals as goal

pub returns-then-n-reach : goal.returns-then-n-reach
returns-then-n-reach c = rw (
  c.if-made.true,
  lt-leb c.args.reach c.args.n
      c.if-n-reach.true,
)

pub returns-else-n-reach : goal.returns-else-n-reach
returns-else-n-reach c = rw (
  c.if-made.true,
  le-leb c.args.reach c.args.n
      c.if-n-reach.false,
)

pub returns-else-made : goal.returns-else-made
returns-else-made c = search rules
