-- `report_lines::files::put_count` meets its contract: four texts that are put one after the other are one text.
-- Assumes nothing.
use mathlib.Core.List.{◌++◌}
use Rattle.text.specs.Text.{ascii, decimal}
use Rattle.text.proofs.Texts.{then}
use Rattle.report_lines.specs.Files.{plural_text, count_text}
use Rattle.report_lines.proofs.files.put_count.Goals as goal

pub returns : goal.returns
unfolding ascii count_text
returns c =
    let s = c.args in
    let from-word = s.thing.now ++ (plural_text s.n) in
    let from-blank = ascii " " ++ from-word in
    then s.out.now (decimal s.n) from-blank s.at c.put_decimal-blank.ensures
    (then c.put_decimal-blank.new.out (ascii " ") from-word c.put_decimal-blank.result c.put-word.ensures
    (then c.put-word.new.out s.thing.now (plural_text s.n) c.put-word.result
    c.put-end.ensures c.put_plural.ensures))
