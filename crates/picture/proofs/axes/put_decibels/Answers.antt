-- `picture::axes::put_decibels` meets its contract: texts put one after the other are one. Assumes nothing.
use mathlib.Core.List.{◌++◌}
use Rattle.text.specs.Text.{ascii}
use Rattle.text.proofs.Texts.{then}
use Rattle.picture.specs.Panel.{decibels_text}
use Rattle.picture.proofs.axes.put_decibels.Goals as goal

pub returns : goal.returns
unfolding ascii decibels_text
returns c =
    let s = c.args in
    let text-one = ascii "<text x=\"1010\" y=\"-252\">dB</text>\n<text x=\"1010\" y=\"-235\">+6</text>\n" in
    let text-two = ascii "<text x=\"1010\" y=\"-195\">-18</text>\n<text x=\"1010\" y=\"-155\">-42</text>\n" in
    let text-three = ascii "<text x=\"1010\" y=\"-115\">-66</text>\n<text x=\"1010\" y=\"-75\">-90</text>\n" in
    let text-four = ascii "<text x=\"1010\" y=\"-35\">-114</text>\n" in
    let from-three = text-three ++ text-four in
    let from-two = text-two ++ from-three in
    then s.out.now text-one from-two s.at c.put-one.ensures
    (then c.put-one.new.out text-two from-three c.put-one.result c.put-two.ensures
    (then c.put-two.new.out text-three text-four c.put-two.result
    c.put-three.ensures c.put.ensures))
