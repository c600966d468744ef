-- `error_lines::put_start` meets its contract: texts put one after the other are one. Assumes nothing.
use Rattle.text.specs.Text.{ascii}
use Rattle.error_lines.specs.Lines.{name_text, start_text}
use mathlib.Core.List.{◌++◌}
use Rattle.text.proofs.Texts.{then}
use Rattle.error_lines.proofs.put_start.Goals as goal

pub returns : goal.returns
unfolding ascii start_text
returns c =
    let s = c.args in
    let from-two = (ascii ": ") ++ (name_text s.name.now) in
    then s.out.now s.command.now from-two s.at c.put-one.ensures
    (then c.put-one.new.out (ascii ": ") (name_text s.name.now) c.put-one.result c.put-two.ensures
    c.put_name.ensures)
