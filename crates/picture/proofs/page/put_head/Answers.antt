-- `picture::page::put_head` meets its contract: texts put one after the other are one. Assumes nothing.
use Rattle.text.specs.Text.{ascii}
use Rattle.picture.specs.Page.{legend_text, scales_text, title_text, size_text, head_text}
use mathlib.Core.List.{◌++◌}
use Rattle.text.proofs.Texts.{then}
use Rattle.picture.proofs.page.put_head.Goals as goal

pub returns : goal.returns
unfolding ascii head_text
returns c =
    let s = c.args in
    let from-five = legend_text ++ (scales_text) in
    let from-four = (title_text s.first.now s.second.now) ++ from-five in
    let from-three = (ascii "<rect width=\"100%\" height=\"100%\" fill=\"#fff\"/>\n") ++ from-four in
    let from-two = (ascii "\" font-family=\"sans-serif\" font-size=\"14\">\n") ++ from-three in
    then s.out.now (size_text s.channels) from-two s.at c.put_size-one.ensures
    (then c.put_size-one.new.out (ascii "\" font-family=\"sans-serif\" font-size=\"14\">\n") from-three
    c.put_size-one.result c.put-two.ensures
    (then c.put-two.new.out (ascii "<rect width=\"100%\" height=\"100%\" fill=\"#fff\"/>\n") from-four
    c.put-two.result c.put-three.ensures
    (then c.put-three.new.out (title_text s.first.now s.second.now) from-five c.put-three.result
    c.put_title-four.ensures
    (then c.put_title-four.new.out legend_text scales_text c.put_title-four.result c.put_legend-five.ensures
    c.put_scales.ensures))))
