-- `picture::legend::put_scales` meets its contract: texts put one after the other are one. Assumes nothing.
use mathlib.Core.List.{◌++◌}
use Rattle.text.specs.Text.{ascii}
use Rattle.text.proofs.Texts.{then}
use Rattle.picture.specs.Page.{scales_text}
use Rattle.picture.proofs.legend.put_scales.Goals as goal

pub returns : goal.returns
unfolding ascii scales_text
returns c =
    let s = c.args in
    let text-one = ascii "<text x=\"90\" y=\"80\">Upwards: how many bits it has, 0 for silence or no difference; " in
    let text-two = ascii "on the right the same in decibels beside full scale.</text>\n" in
    let text-three = ascii "<text x=\"90\" y=\"98\">From left to right: time since the first frame compared, " in
    let text-four = ascii "in hours:minutes:seconds.</text>\n" in
    let from-three = text-three ++ text-four in
    let from-two = text-two ++ from-three in
    then s.out.now text-one from-two s.at c.put-one.ensures
    (then c.put-one.new.out text-two from-three c.put-one.result c.put-two.ensures
    (then c.put-two.new.out text-three text-four c.put-two.result
    c.put-three.ensures c.put.ensures))
