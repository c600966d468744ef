-- `delay_words::put_range` meets its contract: texts put one after the other are one. Assumes nothing.
use Prim.Native.Nat.{◌+◌, ◌-◌}
use Rattle.text.specs.Text.{ascii, decimal}
use Rattle.delay_words.specs.Delays.{range_text}
use mathlib.Core.List.{◌++◌}
use Rattle.text.proofs.Texts.{then}
use Rattle.delay_words.proofs.put_range.Goals as goal

pub returns : goal.returns
unfolding ascii range_text
returns c =
    let s = c.args in
    let from-four = (decimal (65512 - s.above)) ++ (ascii " samples\n") in
    let from-three = (ascii " to ") ++ from-four in
    let from-two = (decimal (s.above + 16)) ++ from-three in
    let both = then s.out.now (ascii "with these settings delay= can be from ") from-two s.at c.put-one.ensures
    (then c.put-one.new.out (decimal (s.above + 16)) from-three c.put-one.result c.put_decimal-two.ensures
    (then c.put_decimal-two.new.out (ascii " to ") from-four c.put_decimal-two.result c.put-three.ensures
    (then c.put-three.new.out (decimal (65512 - s.above)) (ascii " samples\n") c.put-three.result
    c.put_decimal-four.ensures c.put.ensures))) in
    record { value = both.value; out_after = both.out_after }
