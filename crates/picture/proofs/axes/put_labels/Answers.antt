-- `picture::axes::put_labels` meets its contract: texts put one after the other are one. Assumes nothing.
use mathlib.Core.List.{◌++◌}
use Rattle.text.specs.Text.{ascii}
use Rattle.text.proofs.Texts.{then}
use Rattle.picture.specs.Panel.{labels_text}
use Rattle.picture.proofs.axes.put_labels.Goals as goal

pub returns : goal.returns
unfolding ascii labels_text
returns c =
    let s = c.args in
    let text-one = ascii "<g text-anchor=\"end\">\n<text x=\"-10\" y=\"-235\">24</text>\n" in
    let text-two = ascii "<text x=\"-10\" y=\"-195\">20</text>\n<text x=\"-10\" y=\"-155\">16</text>\n" in
    let text-three = ascii "<text x=\"-10\" y=\"-115\">12</text>\n<text x=\"-10\" y=\"-75\">8</text>\n" in
    let text-four = ascii "<text x=\"-10\" y=\"-35\">4</text>\n<text x=\"-10\" y=\"5\">0</text>\n</g>\n" in
    let from-three = text-three ++ text-four in
    let from-two = text-two ++ from-three in
    then s.out.now text-one from-two s.at c.put-one.ensures
    (then c.put-one.new.out text-two from-three c.put-one.result c.put-two.ensures
    (then c.put-two.new.out text-three text-four c.put-two.result
    c.put-three.ensures c.put.ensures))
