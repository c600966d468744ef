-- `refusal_words::put_other` meets its contract: texts put one after the other are one. Assumes nothing.
use Rattle.text.specs.Text.{ascii, decimal}
use Rattle.refusal_words.specs.Refusals.{other_refusal}
use mathlib.Core.List.{◌++◌}
use Rattle.text.proofs.Texts.{then}
use Rattle.refusal_words.proofs.put_other.Goals as goal

pub returns : goal.returns
unfolding ascii other_refusal
returns c =
    let s = c.args in
    let from-two = (decimal s.number) ++ (ascii ": README.md says what that number means\n") in
    then s.out.now (ascii " is refused by ") from-two s.at c.put-one.ensures
    (then c.put-one.new.out (decimal s.number) (ascii ": README.md says what that number means\n")
    c.put-one.result c.put_decimal-two.ensures c.put.ensures)
