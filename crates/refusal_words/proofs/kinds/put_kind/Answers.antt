-- `refusal_words::kinds::put_kind` meets its contract: texts put one after the other are one. Assumes nothing.
use Rattle.text.specs.Text.{ascii}
use Rattle.report_lines.specs.Files.{count_text}
use Rattle.refusal_words.specs.Kinds.{tag_text, frame_text, kind_text}
use mathlib.Core.List.{◌++◌}
use Rattle.text.proofs.Texts.{then}
use Rattle.refusal_words.proofs.kinds.put_kind.Goals as goal

pub returns : goal.returns
unfolding ascii kind_text
returns c =
    let s = c.args in
    let from-five = (count_text s.channels (ascii "channel")) ++ (frame_text s.block) in
    let from-four = (ascii ", ") ++ from-five in
    let from-three = (count_text s.bits (ascii "bit")) ++ from-four in
    let from-two = (ascii ", ") ++ from-three in
    then s.out.now (tag_text s.tag) from-two s.at c.put_tag-one.ensures
    (then c.put_tag-one.new.out (ascii ", ") from-three c.put_tag-one.result c.put-two.ensures
    (then c.put-two.new.out (count_text s.bits (ascii "bit")) from-four c.put-two.result
    c.put_count-three.ensures
    (then c.put_count-three.new.out (ascii ", ") from-five c.put_count-three.result c.put-four.ensures
    (then c.put-four.new.out (count_text s.channels (ascii "channel")) (frame_text s.block)
    c.put-four.result c.put_count-five.ensures c.put_frame.ensures))))
