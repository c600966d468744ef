-- `error_lines::put_name` meets its contract, by whether the name has a byte. Assumes nothing.
use borrow.Author.Tests.{eq-eqb, ne_eqb}
use lib.ListN.{length}
use Rattle.text.specs.Text.{ascii}
use Rattle.error_lines.specs.Lines.{name_text}
use Rattle.error_lines.proofs.put_name.Goals as goal

pub returns-then-name-eq0 : goal.returns-then-name-eq0
unfolding ascii name_text
returns-then-name-eq0 c =
    let s = c.args in
    rw (eq-eqb (length s.name.now) 0 c.if-name-eq0.true)
    c.put.ensures

pub returns : goal.returns
unfolding ascii name_text
returns c =
    let s = c.args in
    rw (ne_eqb (length s.name.now) 0 c.if-name-eq0.false)
    c.put-2.ensures
