-- `report_lines::lines::put_left_over` meets its contract: texts that are put one after the other are one text. Assumes
-- nothing.
use mathlib.Core.List.{◌++◌}
use Rattle.text.specs.Text.{ascii}
use Rattle.text.proofs.Texts.{then}
use Rattle.report_lines.specs.Files.{count_text}
use Rattle.report_lines.specs.Lines.{left_over_text}
use Rattle.report_lines.proofs.lines.put_left_over.Goals as goal

pub returns : goal.returns
unfolding ascii left_over_text
returns c =
    let s = c.args in
    let from-two = count_text s.second (ascii "frame") ++ (ascii "\n") in
    let from-word2 = ascii ", second " ++ from-two in
    let from_one = count_text s.first (ascii "frame") ++ from-word2 in
    then s.out.now (ascii "left over: first ") from_one s.at c.put-one.ensures
    (then c.put-one.new.out (count_text s.first (ascii "frame")) from-word2 c.put-one.result
    c.put_count-to.ensures
    (then c.put_count-to.new.out (ascii ", second ") from-two c.put_count-to.result c.put-two.ensures
    (then c.put-two.new.out (count_text s.second (ascii "frame")) (ascii "\n") c.put-two.result
    c.put_count-end.ensures c.put.ensures)))
