-- `absent_words::put_kinds` meets its contract: texts that are put one after the other are one text. Assumes nothing.
use mathlib.Core.List.{◌++◌}
use Rattle.text.specs.Text.{ascii, decimal}
use Rattle.text.proofs.Texts.{then}
use Rattle.absent_words.specs.Words.{kinds_text}
use Rattle.absent_words.proofs.put_kinds.Goals as goal

pub returns : goal.returns
unfolding ascii kinds_text
returns c =
    let s = c.args in
    let r = s.report in
    let from-five = decimal r.overwritten ++ ascii " overwritten\n" in
    let from-four = ascii " ahead of the newest, " ++ from-five in
    let from-three = decimal r.ahead ++ from-four in
    let from-two = ascii " before the start, " ++ from-three in
    then s.out.now (decimal r.unwritten) from-two s.at c.put_decimal-one.ensures
    (then c.put_decimal-one.new.out (ascii " before the start, ") from-three c.put_decimal-one.result
    c.put-two.ensures
    (then c.put-two.new.out (decimal r.ahead) from-four c.put-two.result c.put_decimal-three.ensures
    (then c.put_decimal-three.new.out (ascii " ahead of the newest, ") from-five c.put_decimal-three.result
    c.put-four.ensures
    (then c.put-four.new.out (decimal r.overwritten) (ascii " overwritten\n") c.put-four.result
    c.put_decimal-five.ensures c.put.ensures))))
