-- `file_words::lines::put_place_words` meets its contract: texts put one after the other are one. Assumes nothing.
use Rattle.text.specs.Text.{ascii, decimal}
use Rattle.file_words.specs.Lines.{place_text}
use mathlib.Core.List.{◌++◌}
use Rattle.text.proofs.Texts.{then}
use Rattle.file_words.proofs.lines.put_place_words.Goals as goal

pub returns : goal.returns
unfolding ascii place_text
returns c =
    let s = c.args in
    let from-six = (decimal s.channel) ++ s.words.now in
    let from-five = (ascii " of channel ") ++ from-six in
    let from-four = (decimal s.frame) ++ from-five in
    let from-three = (ascii ": frame ") ++ from-four in
    let from-two = (decimal s.number) ++ from-three in
    then s.out.now (ascii " is refused by ") from-two s.at c.put-one.ensures
    (then c.put-one.new.out (decimal s.number) from-three c.put-one.result c.put_decimal-two.ensures
    (then c.put_decimal-two.new.out (ascii ": frame ") from-four c.put_decimal-two.result c.put-three.ensures
    (then c.put-three.new.out (decimal s.frame) from-five c.put-three.result c.put_decimal-four.ensures
    (then c.put_decimal-four.new.out (ascii " of channel ") from-six c.put_decimal-four.result
    c.put-five.ensures
    (then c.put-five.new.out (decimal s.channel) s.words.now c.put-five.result
    c.put_decimal-six.ensures c.put.ensures)))))
