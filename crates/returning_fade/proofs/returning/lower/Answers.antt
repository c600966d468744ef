-- `returning_fade::returning::lower` meets its contract, by its two cases. Assumes nothing.
use borrow.Author.Tests.{le-leb, lt-leb}
use Rattle.returning_fade.proofs.returning.lower.Goals as goal

pub returns-then-fade-le1 : goal.returns-then-fade-le1
returns-then-fade-le1 c = rw (le-leb _ 1 c.if-fade-le1.true)

pub returns : goal.returns
returns c = rw (lt-leb _ 1 c.if-fade-le1.false)
