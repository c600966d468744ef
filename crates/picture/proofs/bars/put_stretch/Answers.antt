-- `picture::bars::put_stretch` meets its contract: two bars and the end of a line are one text. Assumes nothing.
use mathlib.Core.List.{◌++◌}
use Rattle.text.specs.Text.{ascii}
use Rattle.text.proofs.Texts.{then}
use Rattle.picture.specs.Bars.{bar_text, stretch_text}
use Rattle.picture.proofs.bars.put_stretch.Goals as goal

pub returns : goal.returns
unfolding ascii stretch_text
returns c =
    let s = c.args in
    let sample = bar_text (ascii "<rect fill=\"#c4c4c4\" x=\"") s.k s.n c.bits-light.result in
    let difference = bar_text (ascii "<rect fill=\"#000\" x=\"") s.k s.n c.bits-dark.result in
    let from-dark = difference ++ (ascii "\n") in
    rw (← c.bits-light.ensures, ← c.bits-dark.ensures)
    (then s.out.now sample from-dark s.at c.put_bar-to.ensures
    (then c.put_bar-to.new.out difference (ascii "\n") c.put_bar-to.result
    c.put_bar-end.ensures c.put.ensures))
