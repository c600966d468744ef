-- `trace_lines::put_line` meets its contract: four texts that are put one after the other are one text. Assumes
-- nothing.
use mathlib.Core.List.{◌++◌}
use Rattle.text.specs.Text.{ascii, decimal}
use Rattle.text.proofs.Texts.{then}
use Rattle.trace_lines.specs.Lines.{answer_text}
use Rattle.trace_lines.proofs.put_line.Goals as goal

pub returns : goal.returns
unfolding ascii
returns c =
    let s = c.args in
    let line = ascii "\n" in
    then s.out.now (decimal s.count) (ascii " " ++ (answer_text s.answer ++ line)) s.at
    c.put_decimal-blank.ensures
    (then c.put_decimal-blank.new.out (ascii " ") (answer_text s.answer ++ line) c.put_decimal-blank.result
    c.put-to.ensures
    (then c.put-to.new.out (answer_text s.answer) line c.put-to.result c.put_answer-end.ensures
    c.put.ensures))
