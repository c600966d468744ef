-- `picture::page::put_title` meets its contract: texts put one after the other are one. Assumes nothing.
use mathlib.Core.List.{◌++◌}
use Rattle.text.specs.Text.{ascii}
use Rattle.text.proofs.Texts.{then}
use Rattle.picture.specs.Names.{escaped}
use Rattle.picture.specs.Page.{title_text}
use Rattle.picture.proofs.page.put_title.Goals as goal

pub returns : goal.returns
unfolding ascii title_text
returns c =
    let s = c.args in
    let text-one = ascii "<text x=\"90\" y=\"30\" font-size=\"18\">How far " in
    let text-four = escaped s.second.now in
    let from-four = text-four ++ (ascii " differ</text>\n") in
    let from-three = ascii " and " ++ from-four in
    let from-two = escaped s.first.now ++ from-three in
    then s.out.now text-one from-two s.at c.put-one.ensures
    (then c.put-one.new.out (escaped s.first.now) from-three c.put-one.result c.put_escaped-two.ensures
    (then c.put_escaped-two.new.out (ascii " and ") from-four c.put_escaped-two.result c.put-three.ensures
    (then c.put-three.new.out text-four (ascii " differ</text>\n") c.put-three.result
    c.put_escaped-four.ensures c.put.ensures)))
