-- `file_words::lines::put_differ_words` meets its contract: texts put one after the other are one. Assumes nothing.
use Rattle.text.specs.Text.{ascii, decimal}
use Rattle.error_lines.specs.Lines.{name_text}
use Rattle.file_words.specs.Lines.{differ_text}
use mathlib.Core.List.{◌++◌}
use Rattle.text.proofs.Texts.{then}
use Rattle.file_words.proofs.lines.put_differ_words.Goals as goal

pub returns : goal.returns
unfolding ascii differ_text
returns c =
    let s = c.args in
    let from-six = (decimal s.b) ++ s.words.now in
    let from-five = (ascii " has ") ++ from-six in
    let from-four = (name_text s.second.now) ++ from-five in
    let from-three = (ascii " and ") ++ from-four in
    let from-two = (decimal s.a) ++ from-three in
    then s.out.now (ascii " has ") from-two s.at c.put-one.ensures
    (then c.put-one.new.out (decimal s.a) from-three c.put-one.result c.put_decimal-two.ensures
    (then c.put_decimal-two.new.out (ascii " and ") from-four c.put_decimal-two.result c.put-three.ensures
    (then c.put-three.new.out (name_text s.second.now) from-five c.put-three.result c.put_name-four.ensures
    (then c.put_name-four.new.out (ascii " has ") from-six c.put_name-four.result c.put-five.ensures
    (then c.put-five.new.out (decimal s.b) s.words.now c.put-five.result c.put_decimal-six.ensures
    c.put.ensures)))))
