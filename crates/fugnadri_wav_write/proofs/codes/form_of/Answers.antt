-- `fugnadri_wav_write::codes::form_of` meets its contract, by its two cases. Assumes nothing.
use borrow.Author.Tests.{eq-eqb, ne_eqb}
use Rattle.fugnadri_wav_write.proofs.codes.form_of.Goals as goal

pub returns-then-form-eq0 : goal.returns-then-form-eq0
returns-then-form-eq0 c = rw (eq-eqb c.args.form 0 c.if-form-eq0.true)

pub returns-else-form-eq0 : goal.returns-else-form-eq0
returns-else-form-eq0 c = rw (ne_eqb c.args.form 0 c.if-form-eq0.false)
