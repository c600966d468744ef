-- `refusal_words::kinds::put_advice` meets its contract: texts put one after the other are one. Assumes nothing.
use Rattle.text.specs.Text.{ascii}
use Rattle.refusal_words.specs.Kinds.{remix_text, advice_text}
use mathlib.Core.List.{◌++◌}
use Rattle.text.proofs.Texts.{then}
use Rattle.refusal_words.proofs.kinds.put_advice.Goals as goal

pub returns : goal.returns
unfolding ascii advice_text
returns c =
    let s = c.args in
    let from-three = (ascii " -t wavpcm -b 24 OUT.wav") ++ (remix_text s.channels) in
    let from-two = s.name.now ++ from-three in
    then s.out.now (ascii "; write it as such, for instance: sox -D ") from-two s.at c.put-one.ensures
    (then c.put-one.new.out s.name.now from-three c.put-one.result c.put-two.ensures
    (then c.put-two.new.out (ascii " -t wavpcm -b 24 OUT.wav") (remix_text s.channels) c.put-two.result
    c.put-three.ensures c.put_remix.ensures))
