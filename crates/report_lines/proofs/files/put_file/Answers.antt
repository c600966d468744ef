-- `report_lines::files::put_file` meets its contract: texts that are put one after the other are one text. Assumes
-- nothing.
use mathlib.Core.List.{◌++◌}
use Rattle.text.specs.Text.{ascii, decimal}
use Rattle.text.proofs.Texts.{then}
use Rattle.report_lines.specs.Files.{kind_text, count_text, file_text}
use Rattle.report_lines.proofs.files.put_file.Goals as goal

pub returns : goal.returns
unfolding ascii file_text
returns c =
    let s = c.args in
    let from-hertz = ascii " Hz, " ++ (count_text s.frames (ascii "frame")) in
    let from-rate = decimal s.rate ++ from-hertz in
    let from-comma2 = ascii ", " ++ from-rate in
    let from-many = count_text s.channels (ascii "channel") ++ from-comma2 in
    let from-comma = ascii ", " ++ from-many in
    then s.out.now (kind_text s.kind) from-comma s.at c.put_kind-first.ensures
    (then c.put_kind-first.new.out (ascii ", ") from-many c.put_kind-first.result c.put-many.ensures
    (then c.put-many.new.out (count_text s.channels (ascii "channel")) from-comma2 c.put-many.result
    c.put_count-second.ensures
    (then c.put_count-second.new.out (ascii ", ") from-rate c.put_count-second.result c.put-speed.ensures
    (then c.put-speed.new.out (decimal s.rate) from-hertz c.put-speed.result
    c.put_decimal-third.ensures
    (then c.put_decimal-third.new.out (ascii " Hz, ") (count_text s.frames (ascii "frame"))
    c.put_decimal-third.result c.put-last.ensures c.put_count.ensures)))))
