-- `picture::legend::put_legend` meets its contract: texts put one after the other are one. Assumes nothing.
use mathlib.Core.List.{◌++◌}
use Rattle.text.specs.Text.{ascii}
use Rattle.text.proofs.Texts.{then}
use Rattle.picture.specs.Page.{legend_text}
use Rattle.picture.proofs.legend.put_legend.Goals as goal

pub returns : goal.returns
unfolding ascii legend_text
returns c =
    let s = c.args in
    let text-one = ascii "<rect x=\"90\" y=\"46\" width=\"14\" height=\"14\" fill=\"#c4c4c4\"/>\n" in
    let text-two = ascii "<text x=\"110\" y=\"58\">light: the largest sample of a stretch, in either file</text>\n" in
    let text-three = ascii "<rect x=\"480\" y=\"46\" width=\"14\" height=\"14\" fill=\"#000\"/>\n" in
    let text-four =
    ascii
    "<text x=\"500\" y=\"58\">dark, in front: the largest difference; where it meets light they part</text>\n" in
    let from-three = text-three ++ text-four in
    let from-two = text-two ++ from-three in
    then s.out.now text-one from-two s.at c.put-one.ensures
    (then c.put-one.new.out text-two from-three c.put-one.result c.put-two.ensures
    (then c.put-two.new.out text-three text-four c.put-two.result
    c.put-three.ensures c.put.ensures))
