-- `line_text::put_tenths` meets its contract: three texts that are put one after the other are one text. Assumes
-- nothing.
use mathlib.Core.List.{◌++◌}
use Prim.Native.Nat.{◌/◌}
use Rattle.text.specs.Text.{ascii, decimal}
use Rattle.text.proofs.Texts.{then}
use Rattle.line_text.specs.Columns.{places_in}
use Rattle.line_text.proofs.put_tenths.Goals as goal

pub returns : goal.returns
unfolding ascii
returns c =
    let a = c.args in
    let last = places_in 1 a.n in
    then a.out.now (decimal (a.n / 10)) (ascii "." ++ last) a.at c.put_decimal-point.ensures
    (then c.put_decimal-point.new.out (ascii ".") last c.put_decimal-point.result c.put-to.ensures
    c.put_places.ensures)
