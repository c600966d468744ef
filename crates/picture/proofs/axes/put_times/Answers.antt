-- `picture::axes::put_times` meets its contract: texts put one after the other are one. Assumes nothing.
use mathlib.Core.List.{◌++◌}
use Prim.Native.Nat.{◌/◌}
use Rattle.text.specs.Text.{ascii}
use Rattle.text.proofs.Texts.{then}
use Rattle.report_lines.specs.Times.{length_text}
use Rattle.picture.specs.Panel.{times_text}
use Rattle.picture.proofs.axes.put_times.Goals as goal

pub returns : goal.returns
unfolding ascii times_text
returns c =
    let s = c.args in
    let text-one = ascii "<g text-anchor=\"middle\">\n<text x=\"0\" y=\"22\">" in
    let text-three = ascii "</text>\n<text x=\"500\" y=\"22\">" in
    let text-four = length_text (s.frames / 2) s.rate in
    let text-five = ascii "</text>\n<text x=\"1000\" y=\"22\">" in
    let text-six = length_text s.frames s.rate in
    let from-six = text-six ++ (ascii "</text>\n</g>\n") in
    let from-five = text-five ++ from-six in
    let from-four = text-four ++ from-five in
    let from-three = text-three ++ from-four in
    let from-two = length_text 0 s.rate ++ from-three in
    then s.out.now text-one from-two s.at c.put-one.ensures
    (then c.put-one.new.out (length_text 0 s.rate) from-three c.put-one.result c.put_length-two.ensures
    (then c.put_length-two.new.out text-three from-four c.put_length-two.result c.put-three.ensures
    (then c.put-three.new.out text-four from-five c.put-three.result c.put_length-four.ensures
    (then c.put_length-four.new.out text-five from-six c.put_length-four.result c.put-five.ensures
    (then c.put-five.new.out text-six (ascii "</text>\n</g>\n") c.put-five.result
    c.put_length-six.ensures c.put.ensures)))))
