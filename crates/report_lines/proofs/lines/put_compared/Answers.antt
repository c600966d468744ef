-- `report_lines::lines::put_compared` meets its contract: texts that are put one after the other are one text. Assumes
-- nothing.
use mathlib.Core.List.{◌++◌}
use Rattle.text.specs.Text.{ascii, decimal}
use Rattle.text.proofs.Texts.{then}
use Rattle.report_lines.specs.Lines.{compared_text}
use Rattle.report_lines.proofs.lines.put_compared.Goals as goal

pub returns : goal.returns
unfolding ascii compared_text
returns c =
    let s = c.args in
    let from-two = decimal s.second ++ (ascii "\n") in
    let from-word2 = ascii ", second from frame " ++ from-two in
    let from_one = decimal s.first ++ from-word2 in
    then s.out.now (ascii "compared: first from frame ") from_one s.at c.put-one.ensures
    (then c.put-one.new.out (decimal s.first) from-word2 c.put-one.result c.put_decimal-to.ensures
    (then c.put_decimal-to.new.out (ascii ", second from frame ") from-two c.put_decimal-to.result
    c.put-two.ensures
    (then c.put-two.new.out (decimal s.second) (ascii "\n") c.put-two.result
    c.put_decimal-end.ensures c.put.ensures)))
