-- `report_lines::times::put_three` meets its contract, by whether there are fewer than three digits. Assumes nothing.
use borrow.Author.Tests.{lt-ltb, le-ltb}
use Rattle.text.specs.Text.{ascii}
use Rattle.text.proofs.Texts.{then}
use Rattle.report_lines.specs.Times.{two_text, three_text}
use Rattle.report_lines.proofs.times.put_three.Goals as goal

pub returns-then-n-lt100 : goal.returns-then-n-lt100
unfolding ascii three_text
returns-then-n-lt100 c =
    let s = c.args in
    rw (lt-ltb s.n 100 c.if-n-lt100.true)
    (then s.out.now (ascii "0") (two_text s.n) s.at c.put-to.ensures c.put_two.ensures)

pub returns : goal.returns
unfolding three_text
returns c =
    let s = c.args in
    rw (le-ltb s.n 100 c.if-n-lt100.false) c.put_two-2.ensures
