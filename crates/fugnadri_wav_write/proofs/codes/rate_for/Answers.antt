-- `fugnadri_wav_write::codes::rate_for` meets its contract, by its two cases. Assumes nothing.
use borrow.Author.Tests.{le-leb, lt-leb}
use Rattle.fugnadri_wav_write.proofs.codes.rate_for.Goals as goal

pub returns-then-form-le1 : goal.returns-then-form-le1
returns-then-form-le1 c = rw (le-leb c.args.form 1 c.if-form-le1.true)

pub returns-else-form-le1 : goal.returns-else-form-le1
returns-else-form-le1 c = rw (lt-leb c.args.form 1 c.if-form-le1.false)
