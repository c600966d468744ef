-- `absent_words::put_pair` meets its contract, by whether both channels have the same numbers. Assumes nothing.
use mathlib.Core.Path.{sym, ◌∙◌}
use Rattle.text.specs.Text.{ascii}
use Rattle.text.proofs.Texts.{then}
use Rattle.absent_words.specs.Words.{line_text, pair_text}
use Rattle.absent_words.proofs.put_pair.Goals as goal

pub returns-then-same : goal.returns-then-same
unfolding ascii pair_text
returns-then-same c =
    rw (sym c.same.ensures ∙ c.if-same.true) c.put_line.ensures

pub returns : goal.returns
unfolding ascii pair_text
returns c =
    let s = c.args in
    rw (sym c.same.ensures ∙ c.if-same.false)
    (then s.out.now (line_text (ascii "channel 1: ") s.one) (line_text (ascii "channel 2: ") s.two) s.at
    c.put_line-next.ensures c.put_line-2.ensures)
