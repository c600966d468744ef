-- `words_asked::words::put_unknown` meets its contract: texts put one after the other are one. Assumes nothing.
use Rattle.text.specs.Text.{ascii}
use Rattle.words_asked.specs.Words.{unknown_text}
use mathlib.Core.List.{◌++◌}
use Rattle.text.proofs.Texts.{then}
use Rattle.words_asked.proofs.words.put_unknown.Goals as goal

pub returns : goal.returns
unfolding ascii unknown_text
returns c =
    let s = c.args in
    let from-two = s.words.now ++ (ascii "\n") in
    then s.out.now (ascii
    " is no setting that it knows (./run --help lists them); for a file of that name write ./") from-two s.at
    c.put-one.ensures
    (then c.put-one.new.out s.words.now (ascii "\n") c.put-one.result c.put-two.ensures
    c.put.ensures)
