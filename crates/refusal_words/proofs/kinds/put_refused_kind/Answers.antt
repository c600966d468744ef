-- `refusal_words::kinds::put_refused_kind` meets its contract: texts put one after the other are one. Assumes nothing.
use Rattle.text.specs.Text.{ascii}
use Rattle.refusal_words.specs.Kinds.{kind_text, advice_text, kind_refusal}
use mathlib.Core.List.{◌++◌}
use Rattle.text.proofs.Texts.{then}
use Rattle.refusal_words.proofs.kinds.put_refused_kind.Goals as goal

pub returns : goal.returns
unfolding ascii kind_refusal
returns c =
    let s = c.args in
    let from-three = (ascii ": whole frames of one or two channels, PCM of 16 or 24 bits or float of 32, are read") ++
    (advice_text s.name.now s.channels) in
    let from-two = (kind_text s.tag s.channels s.block s.bits) ++ from-three in
    then s.out.now (ascii " is refused by 13: ") from-two s.at c.put-one.ensures
    (then c.put-one.new.out (kind_text s.tag s.channels s.block s.bits) from-three c.put-one.result
    c.put_kind-two.ensures
    (then c.put_kind-two.new.out
    (ascii ": whole frames of one or two channels, PCM of 16 or 24 bits or float of 32, are read")
    (advice_text s.name.now s.channels) c.put_kind-two.result c.put-three.ensures
    c.put_advice.ensures))
