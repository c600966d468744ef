-- `error_lines::put_plain` meets its contract: texts put one after the other are one. Assumes nothing.
use Rattle.text.specs.Text.{ascii}
use Rattle.error_lines.specs.Lines.{plain_text}
use mathlib.Core.List.{◌++◌}
use Rattle.text.proofs.Texts.{then}
use Rattle.error_lines.proofs.put_plain.Goals as goal

pub returns : goal.returns
unfolding ascii plain_text
returns c =
    let s = c.args in
    let from-two = (ascii ": ") ++ s.words.now in
    then s.out.now s.command.now from-two s.at c.put-one.ensures
    (then c.put-one.new.out (ascii ": ") s.words.now c.put-one.result c.put-two.ensures
    c.put.ensures)
