-- `picture::names::shown` meets its contract, by whether the name is UTF-8, and by the byte. Assumes nothing.
use borrow.Author.Tests.{lt-ltb, le-ltb}
use Rattle.picture.specs.Names.{shown_byte}
use Rattle.picture.proofs.names.shown.Goals as goal

pub returns-then-readable : goal.returns-then-readable
unfolding shown_byte
returns-then-readable c = rw c.if-readable.true

pub returns-then-b-lt128 : goal.returns-then-b-lt128
unfolding shown_byte
returns-then-b-lt128 c = rw (c.if-readable.false, lt-ltb c.args.b 128 c.if-b-lt128.true)

pub returns-else-b-lt128 : goal.returns-else-b-lt128
unfolding shown_byte
returns-else-b-lt128 c = rw (c.if-readable.false, le-ltb c.args.b 128 c.if-b-lt128.false)
