-- `line_text::put_clock` meets its contract: five texts that are put one after the other are one text. Assumes nothing.
use mathlib.Core.List.{◌++◌}
use Prim.Native.Nat.{◌/◌, ◌%◌}
use Rattle.text.specs.Text.{ascii, decimal}
use Rattle.text.proofs.Texts.{then}
use Rattle.line_text.specs.Columns.{places_in}
use Rattle.line_text.specs.Time.{seconds_of}
use Rattle.line_text.proofs.time.put_clock.Goals as goal

pub returns : goal.returns
unfolding ascii
returns c =
    let a = c.args in
    let ss = seconds_of (a.seconds % 60) a.thousandths in
    let mm = places_in 2 (a.seconds / 60 % 60) in
    let colon = ascii ":" in
    let hh = decimal (a.seconds / 3600) in
    then a.out.now hh (colon ++ (mm ++ (colon ++ ss))) a.at c.put_decimal-to.ensures
    (then c.put_decimal-to.new.out colon (mm ++ (colon ++ ss)) c.put_decimal-to.result c.put-to.ensures
    (then c.put-to.new.out mm (colon ++ ss) c.put-to.result c.put_places-to.ensures
    (then c.put_places-to.new.out colon ss c.put_places-to.result c.put-to-2.ensures
    c.put_seconds.ensures)))
