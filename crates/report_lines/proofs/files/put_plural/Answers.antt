-- `report_lines::files::put_plural` meets its contract, by whether there is one. Assumes nothing.
use borrow.Author.Tests.{eq-eqb, ne_eqb}
use Rattle.text.specs.Text.{ascii}
use Rattle.report_lines.specs.Files.{plural_text}
use Rattle.report_lines.proofs.files.put_plural.Goals as goal

pub returns-then-n-eq1 : goal.returns-then-n-eq1
unfolding ascii plural_text
returns-then-n-eq1 c =
    let s = c.args in
    rw (eq-eqb s.n 1 c.if-n-eq1.true) c.put.ensures

pub returns : goal.returns
unfolding ascii plural_text
returns c =
    let s = c.args in
    rw (ne_eqb s.n 1 c.if-n-eq1.false) c.put-2.ensures
