-- `report_lines::looked::put_time` meets its contract, by whether there is a rate. Assumes nothing.
use borrow.Author.Tests.{eq-eqb, ne_eqb}
use Rattle.text.specs.Text.{ascii}
use Rattle.text.proofs.Texts.{then}
use Rattle.report_lines.specs.Times.{length_text}
use Rattle.report_lines.specs.Looked.{time_text}
use Rattle.report_lines.proofs.looked.put_time.Goals as goal

pub returns-then-rate-eq0 : goal.returns-then-rate-eq0
unfolding ascii time_text
returns-then-rate-eq0 c =
    let s = c.args in
    rw (eq-eqb s.rate 0 c.if-rate-eq0.true) c.put.ensures

pub returns : goal.returns
unfolding ascii time_text
returns c =
    let s = c.args in
    rw (ne_eqb s.rate 0 c.if-rate-eq0.false)
    (then s.out.now (ascii ", ") (length_text s.frames s.rate) s.at
    c.put-to.ensures c.put_length.ensures)
