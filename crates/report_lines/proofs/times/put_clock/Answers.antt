-- `report_lines::times::put_clock` meets its contract: texts that are put one after the other are one text. Assumes
-- nothing.
use mathlib.Core.List.{◌++◌}
use Prim.Native.Nat.{◌/◌, ◌%◌}
use Rattle.text.specs.Text.{ascii, decimal}
use Rattle.text.proofs.Texts.{then}
use Rattle.report_lines.specs.Times.{two_text, three_text, clock_text}
use Rattle.report_lines.proofs.times.put_clock.Goals as goal

pub returns : goal.returns
unfolding ascii clock_text
returns c =
    let s = c.args in
    let from-point = ascii "." ++ (three_text s.thousandths) in
    let from-seconds = two_text (s.seconds % 60) ++ from-point in
    let from-colon2 = ascii ":" ++ from-seconds in
    let from-minutes = two_text (s.seconds / 60 % 60) ++ from-colon2 in
    let from-colon = ascii ":" ++ from-minutes in
    then s.out.now (decimal (s.seconds / 3600)) from-colon s.at c.put_decimal-first.ensures
    (then c.put_decimal-first.new.out (ascii ":") from-minutes c.put_decimal-first.result
    c.put-minutes.ensures
    (then c.put-minutes.new.out (two_text (s.seconds / 60 % 60)) from-colon2 c.put-minutes.result
    c.put_two-second.ensures
    (then c.put_two-second.new.out (ascii ":") from-seconds c.put_two-second.result c.put-rest.ensures
    (then c.put-rest.new.out (two_text (s.seconds % 60)) from-point c.put-rest.result
    c.put_two-third.ensures
    (then c.put_two-third.new.out (ascii ".") (three_text s.thousandths) c.put_two-third.result
    c.put-last.ensures c.put_three.ensures)))))
