-- `picture::panel::put_panel_end` meets its contract: texts put one after the other are one. Assumes nothing.
use mathlib.Core.List.{◌++◌}
use Rattle.text.specs.Text.{ascii}
use Rattle.text.proofs.Texts.{then}
use Rattle.picture.specs.Panel.{grid_text, panel_end_text}
use Rattle.picture.proofs.panel.put_panel_end.Goals as goal

pub returns : goal.returns
unfolding ascii panel_end_text
returns c =
    let s = c.args in
    let text-one = ascii "</g>\n" in
    let text-three = ascii "<path fill=\"none\" stroke=\"#000\" " in
    let text-four = ascii "d=\"M0 -240V6M0 0H1000M500 0V6M1000 0V6\"/>\n</g>\n" in
    let from-three = text-three ++ text-four in
    let from-two = grid_text ++ from-three in
    then s.out.now text-one from-two s.at c.put-one.ensures
    (then c.put-one.new.out grid_text from-three c.put-one.result c.put_grid-two.ensures
    (then c.put_grid-two.new.out text-three text-four c.put_grid-two.result
    c.put-three.ensures c.put.ensures))
