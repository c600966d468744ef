-- `report_lines::looked::put_looked` meets its contract: three texts that are put one after the other are one text.
-- Assumes nothing.
use mathlib.Core.List.{◌++◌}
use Rattle.text.proofs.Texts.{then}
use Rattle.report_lines.specs.Files.{file_text}
use Rattle.report_lines.specs.Looked.{time_text, wrapped_text, looked_text}
use Rattle.report_lines.proofs.looked.put_looked.Goals as goal

pub returns : goal.returns
unfolding looked_text
returns c =
    let s = c.args in
    let from-time = time_text s.frames s.rate ++ (wrapped_text s.wrapped) in
    then s.out.now (file_text s.kind s.channels s.rate s.frames) from-time s.at
    c.put_file-first.ensures
    (then c.put_file-first.new.out (time_text s.frames s.rate) (wrapped_text s.wrapped)
    c.put_file-first.result c.put_time-end.ensures c.put_wrapped.ensures)
