-- `level_text::put_size` meets its contract: four texts that are put one after the other are one text. Assumes nothing.
use mathlib.Core.List.{◌++◌}
use Prim.Native.Nat.{◌/◌, ◌%◌}
use Rattle.text.specs.Text.{ascii, decimal}
use Rattle.text.proofs.Texts.{then}
use Rattle.level_text.specs.LevelText.{size_text}
use Rattle.level_text.proofs.put_size.Goals as goal

pub returns : goal.returns
unfolding ascii size_text
returns c =
    let s = c.args in
    let dB = ascii " dB" in
    let d = decimal (s.tenths % 10) in
    then s.out.now (decimal (s.tenths / 10)) (ascii "." ++ (d ++ dB)) s.at c.put_decimal-point.ensures
    (then c.put_decimal-point.new.out (ascii ".") (d ++ dB) c.put_decimal-point.result c.put-place.ensures
    (then c.put-place.new.out d dB c.put-place.result c.put_decimal-unit.ensures c.put.ensures))
