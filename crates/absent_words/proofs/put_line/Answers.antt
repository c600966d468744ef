-- `absent_words::put_line` meets its contract: three texts that are put one after the other are one text. Assumes
-- nothing.
use mathlib.Core.List.{◌++◌}
use Rattle.text.specs.Text.{ascii}
use Rattle.text.proofs.Texts.{then}
use Rattle.absent_words.specs.Words.{absent_text, line_text}
use Rattle.absent_words.proofs.put_line.Goals as goal

pub returns : goal.returns
unfolding ascii line_text
returns c =
    let s = c.args in
    let from-two = s.whose.now ++ absent_text s.report in
    then s.out.now (ascii "imitate: ") from-two s.at c.put-one.ensures
    (then c.put-one.new.out s.whose.now (absent_text s.report) c.put-one.result c.put-two.ensures
    c.put_absent.ensures)
