-- `picture::axes::put_grid` meets its contract: texts put one after the other are one. Assumes nothing.
use Rattle.text.specs.Text.{ascii}
use Rattle.text.proofs.Texts.{then}
use Rattle.picture.specs.Panel.{grid_text}
use Rattle.picture.proofs.axes.put_grid.Goals as goal

pub returns : goal.returns
unfolding ascii grid_text
returns c =
    let s = c.args in
    let text-one = ascii "<path fill=\"none\" stroke=\"#888\" stroke-dasharray=\"2 4\" d=\"" in
    let text-two = ascii "M0 -40H1000M0 -80H1000M0 -120H1000M0 -160H1000M0 -200H1000M0 -240H1000\"/>\n" in
    then s.out.now text-one text-two s.at c.put-one.ensures c.put.ensures
