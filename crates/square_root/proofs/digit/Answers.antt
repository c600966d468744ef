-- `square_root::digit` meets its contract. Assumes nothing.
use Rattle.std.proofs.Common.{le-leb}
use borrow.Author.Tests.{lt-leb}
use Rattle.square_root.proofs.digit.Goals as goal

pub returns-then-t-a : goal.returns-then-t-a
returns-then-t-a c = rw (le-leb c.args.t c.args.a c.if-t-a.true)

pub returns-else-t-a : goal.returns-else-t-a
returns-else-t-a c = rw (lt-leb c.args.t c.args.a c.if-t-a.false)
