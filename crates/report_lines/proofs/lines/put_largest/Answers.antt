-- `report_lines::lines::put_largest` meets its contract: four texts that are put one after the other are one text.
-- Assumes nothing.
use mathlib.Core.List.{◌++◌}
use Rattle.text.specs.Text.{ascii, decimal}
use Rattle.text.proofs.Texts.{then}
use Rattle.report_lines.specs.Lines.{place_text, largest_text}
use Rattle.report_lines.proofs.lines.put_largest.Goals as goal

pub returns : goal.returns
unfolding ascii largest_text
returns c =
    let s = c.args in
    let from-word2 = ascii ", place " ++ (place_text s.place) in
    let from-size = decimal s.largest ++ from-word2 in
    then s.out.now (ascii ", largest ") from-size s.at c.put-first.ensures
    (then c.put-first.new.out (decimal s.largest) from-word2 c.put-first.result c.put_decimal-to.ensures
    (then c.put_decimal-to.new.out (ascii ", place ") (place_text s.place) c.put_decimal-to.result
    c.put-second.ensures c.put_place.ensures))
