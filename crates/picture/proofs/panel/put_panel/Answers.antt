-- `picture::panel::put_panel` meets its contract: texts put one after the other are one. Assumes nothing.
use mathlib.Core.List.{◌++◌}
use Prim.Native.Nat.{◌*◌, ◌+◌}
use Rattle.text.specs.Text.{ascii}
use Rattle.text.proofs.Texts.{then}
use Rattle.picture.specs.Bars.{number_text}
use Rattle.picture.specs.Panel.{labels_text, decibels_text, panel_text, times_text}
use Rattle.picture.proofs.panel.put_panel.Goals as goal

pub returns : goal.returns
unfolding ascii panel_text
returns c =
    let s = c.args in
    let text-one = number_text (ascii "<g transform=\"translate(90 ") (s.channel * 300 + 90) in
    let text-two = number_text (ascii ")\">\n<text x=\"0\" y=\"-252\" font-weight=\"bold\">channel ") s.channel in
    let text-three = ascii "</text>\n<text x=\"-10\" y=\"-252\" text-anchor=\"end\">bits</text>\n" in
    let text-six = times_text s.frames s.rate in
    let text-seven = ascii "<g transform=\"scale(1 -1)\">\n" in
    let from-six = text-six ++ text-seven in
    let from-five = decibels_text ++ from-six in
    let from-four = labels_text ++ from-five in
    let from-three = text-three ++ from-four in
    let from-two = text-two ++ from-three in
    then s.out.now text-one from-two s.at c.put_number-one.ensures
    (then c.put_number-one.new.out text-two from-three c.put_number-one.result c.put_number-two.ensures
    (then c.put_number-two.new.out text-three from-four c.put_number-two.result c.put-three.ensures
    (then c.put-three.new.out labels_text from-five c.put-three.result c.put_labels-four.ensures
    (then c.put_labels-four.new.out decibels_text from-six c.put_labels-four.result c.put_decibels-five.ensures
    (then c.put_decibels-five.new.out text-six text-seven c.put_decibels-five.result
    c.put_times-six.ensures c.put.ensures)))))
