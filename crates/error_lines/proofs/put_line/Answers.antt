-- `error_lines::put_line` meets its contract: texts put one after the other are one. Assumes nothing.
use Rattle.error_lines.specs.Lines.{start_text, line_text}
use Rattle.text.proofs.Texts.{then}
use Rattle.error_lines.proofs.put_line.Goals as goal

pub returns : goal.returns
unfolding line_text
returns c =
    let s = c.args in
    then s.out.now (start_text s.command.now s.name.now) s.words.now s.at
    c.put_start-one.ensures c.put.ensures
