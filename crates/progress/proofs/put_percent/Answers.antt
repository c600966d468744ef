-- `progress::put_percent` meets its contract: texts put one after the other are one. Assumes nothing.
use Rattle.text.specs.Text.{ascii, decimal}
use Rattle.progress.specs.Progress.{percent_text}
use mathlib.Core.List.{◌++◌}
use Rattle.text.proofs.Texts.{then}
use Rattle.progress.proofs.put_percent.Goals as goal

pub returns : goal.returns
unfolding ascii percent_text
returns c =
    let s = c.args in
    let from-three = (decimal s.n) ++ (ascii " %   \r") in
    let from-two = (ascii ": ") ++ from-three in
    then s.out.now s.command.now from-two s.at c.put-one.ensures
    (then c.put-one.new.out (ascii ": ") from-three c.put-one.result c.put-two.ensures
    (then c.put-two.new.out (decimal s.n) (ascii " %   \r") c.put-two.result c.put_decimal-three.ensures
    c.put.ensures))
