-- `report_lines::lines::put_sum` meets its contract: texts that are put one after the other are one text. Assumes
-- nothing.
use mathlib.Core.List.{◌++◌}
use Rattle.text.specs.Text.{ascii, decimal}
use Rattle.text.proofs.Texts.{then}
use Rattle.decimals.specs.Writing.{decimal_of}
use Rattle.report_lines.specs.Lines.{sum_text}
use Rattle.report_lines.proofs.lines.put_sum.Goals as goal

pub returns : goal.returns
unfolding ascii sum_text
returns c =
    let s = c.args in
    let from-comma2 = ascii ", low " ++ (decimal s.low) in
    let from-upper = decimal s.high ++ from-comma2 in
    let from-comma = ascii ", high " ++ from-upper in
    then s.out.now (decimal_of s.high s.low) from-comma s.at c.put_u128-first.ensures
    (then c.put_u128-first.new.out (ascii ", high ") from-upper c.put_u128-first.result c.put-upper.ensures
    (then c.put-upper.new.out (decimal s.high) from-comma2 c.put-upper.result c.put_decimal-second.ensures
    (then c.put_decimal-second.new.out (ascii ", low ") (decimal s.low) c.put_decimal-second.result
    c.put-lower.ensures c.put_decimal.ensures)))
