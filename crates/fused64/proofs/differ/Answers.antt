-- `fused64::differ` meets its contract. Assumes nothing.
use Rattle.std.proofs.Common.{zero-lt-suc, lt-suc_self}
use Rattle.fused64.proofs.TwoWords.{like-bits, unlike-bits}
use Rattle.fused64.proofs.differ.Goals as goal

pub returns-then-s-t : goal.returns-then-s-t
returns-then-s-t c = (zero-lt-suc 1, rw (like-bits c.args.s c.args.t c.if-s-t.true))

pub returns-else-s-t : goal.returns-else-s-t
returns-else-s-t c = (
  lt-suc_self 1,
  rw (unlike-bits c.args.s c.args.t c.requires.fact_1 c.requires.fact_2 c.if-s-t.false),
)
