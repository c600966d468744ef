-- `words_asked::words::put_bad` meets its contract: texts put one after the other are one. Assumes nothing.
use Rattle.text.specs.Text.{ascii}
use Rattle.wanted.specs.Wanted.{wanted_of}
use Rattle.words_asked.specs.Words.{bad_text}
use mathlib.Core.List.{◌++◌}
use Rattle.text.proofs.Texts.{then}
use Rattle.words_asked.proofs.words.put_bad.Goals as goal

pub returns : goal.returns
unfolding ascii bad_text
returns c =
    let s = c.args in
    let from-two = (wanted_of s.name) ++ (ascii "\n") in
    then s.out.now (ascii " will not do: ") from-two s.at c.put-one.ensures
    (then c.put-one.new.out (wanted_of s.name) (ascii "\n") c.put-one.result c.put_wanted-two.ensures
    c.put.ensures)
