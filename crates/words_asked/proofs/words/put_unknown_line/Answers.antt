-- `words_asked::words::put_unknown_line` meets its contract: texts put one after the other are one. Assumes nothing.
use Rattle.error_lines.specs.Lines.{start_text}
use Rattle.words_asked.specs.Words.{unknown_text, unknown_line}
use Rattle.text.proofs.Texts.{then}
use Rattle.words_asked.proofs.words.put_unknown_line.Goals as goal

pub returns : goal.returns
unfolding unknown_line
returns c =
    let s = c.args in
    then s.out.now (start_text s.command.now s.words.now) (unknown_text s.words.now) s.at
    c.put_start-one.ensures c.put_unknown.ensures
