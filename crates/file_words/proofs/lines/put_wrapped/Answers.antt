-- `file_words::lines::put_wrapped` meets its contract: texts put one after the other are one. Assumes nothing.
use Rattle.text.specs.Text.{ascii}
use Rattle.error_lines.specs.Lines.{start_text}
use Rattle.report_lines.specs.Files.{kind_text}
use Rattle.file_words.specs.Lines.{wrapped_line}
use mathlib.Core.List.{◌++◌}
use Rattle.text.proofs.Texts.{then}
use Rattle.file_words.proofs.lines.put_wrapped.Goals as goal

pub returns : goal.returns
unfolding ascii wrapped_line
returns c =
    let s = c.args in
    let from-three = (kind_text s.kind) ++ (ascii "\n") in
    let from-two = (ascii " is wrapped (WAVE_FORMAT_EXTENSIBLE) and read as ") ++ from-three in
    then s.out.now (start_text s.command.now s.name.now) from-two s.at c.put_start-one.ensures
    (then c.put_start-one.new.out (ascii " is wrapped (WAVE_FORMAT_EXTENSIBLE) and read as ") from-three
    c.put_start-one.result c.put-two.ensures
    (then c.put-two.new.out (kind_text s.kind) (ascii "\n") c.put-two.result c.put_kind-three.ensures
    c.put.ensures))
