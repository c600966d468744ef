-- `file_words::lines::put_differ` meets its contract: texts put one after the other are one. Assumes nothing.
use Rattle.error_lines.specs.Lines.{start_text}
use Rattle.file_words.specs.Lines.{differ_text, differ_line}
use Rattle.text.proofs.Texts.{then}
use Rattle.file_words.proofs.lines.put_differ.Goals as goal

pub returns : goal.returns
unfolding differ_line
returns c =
    let s = c.args in
    then s.out.now (start_text s.command.now s.first.now)
    (differ_text s.second.now s.a s.b s.words.now) s.at c.put_start-one.ensures
    c.put_differ_words.ensures
