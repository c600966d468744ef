-- `absent_words::put_lines` meets its contract, by whether there are two channels. Assumes nothing.
use borrow.Author.Tests.{eq-eqb, ne_eqb}
use Rattle.text.specs.Text.{ascii}
use Rattle.absent_words.specs.Words.{lines_text}
use Rattle.absent_words.proofs.put_lines.Goals as goal

pub returns-then-channels-eq2 : goal.returns-then-channels-eq2
unfolding ascii lines_text
returns-then-channels-eq2 c =
    let s = c.args in
    rw (eq-eqb s.channels 2 c.if-channels-eq2.true) c.put_pair.ensures

pub returns : goal.returns
unfolding ascii lines_text
returns c =
    let s = c.args in
    rw (ne_eqb s.channels 2 c.if-channels-eq2.false) c.put_line.ensures
