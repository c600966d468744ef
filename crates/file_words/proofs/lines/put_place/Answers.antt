-- `file_words::lines::put_place` meets its contract: texts put one after the other are one. Assumes nothing.
use Rattle.error_lines.specs.Lines.{start_text}
use Rattle.file_words.specs.Lines.{place_text, place_line}
use Rattle.text.proofs.Texts.{then}
use Rattle.file_words.proofs.lines.put_place.Goals as goal

pub returns : goal.returns
unfolding place_line
returns c =
    let s = c.args in
    then s.out.now (start_text s.command.now s.name.now)
    (place_text s.number s.frame s.channel s.words.now) s.at c.put_start-one.ensures
    c.put_place_words.ensures
