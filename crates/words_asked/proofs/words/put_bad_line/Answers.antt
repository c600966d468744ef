-- `words_asked::words::put_bad_line` meets its contract: texts put one after the other are one. Assumes nothing.
use Rattle.error_lines.specs.Lines.{start_text}
use Rattle.words_asked.specs.Words.{bad_text, bad_line}
use Rattle.text.proofs.Texts.{then}
use Rattle.words_asked.proofs.words.put_bad_line.Goals as goal

pub returns : goal.returns
unfolding bad_line
returns c =
    let s = c.args in
    then s.out.now (start_text s.command.now s.words.now) (bad_text s.name) s.at
    c.put_start-one.ensures c.put_bad.ensures
