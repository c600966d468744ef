-- `report_lines::times::put_two` meets its contract, by whether there is one digit. Assumes nothing.
use borrow.Author.Tests.{lt-ltb, le-ltb}
use Rattle.text.specs.Text.{ascii, decimal}
use Rattle.text.proofs.Texts.{then}
use Rattle.report_lines.specs.Times.{two_text}
use Rattle.report_lines.proofs.times.put_two.Goals as goal

pub returns-then-n-lt10 : goal.returns-then-n-lt10
unfolding ascii two_text
returns-then-n-lt10 c =
    let s = c.args in
    rw (lt-ltb s.n 10 c.if-n-lt10.true)
    (then s.out.now (ascii "0") (decimal s.n) s.at c.put-to.ensures c.put_decimal.ensures)

pub returns : goal.returns
unfolding two_text
returns c =
    let s = c.args in
    rw (le-ltb s.n 10 c.if-n-lt10.false) c.put_decimal-2.ensures
