-- `line_text::put_seconds` meets its contract: three texts that are put one after the other are one text. Assumes
-- nothing.
use mathlib.Core.List.{◌++◌}
use Rattle.text.specs.Text.{ascii}
use Rattle.text.proofs.Texts.{then}
use Rattle.line_text.specs.Columns.{places_in}
use Rattle.line_text.proofs.time.put_seconds.Goals as goal

pub returns : goal.returns
unfolding ascii
returns c =
    let a = c.args in
    let last = places_in 3 a.thousandths in
    then a.out.now (places_in 2 a.seconds) (ascii "." ++ last) a.at c.put_places-to.ensures
    (then c.put_places-to.new.out (ascii ".") last c.put_places-to.result c.put-to.ensures
    c.put_places.ensures)
