-- `fused_step::are_numbers` meets its contract: one of the two comparisons holds. Assumes nothing.
use Rattle.std.proofs.Common.{Bool, ◌||◌, sym, ap}
use lib.Ieee.{le}
use Rattle.fused_step.proofs.Compared.{less-numbers, at-most-numbers}
use Rattle.fused_step.proofs.are_numbers.Goals as goal

pub returns-then-x-c : goal.returns-then-x-c
returns-then-x-c c =
    let a = c.args in
    record {
      value = ap (λ (z : Bool). z || le a.c a.x) (sym c.if-x-c.true);
      numbers =
          λ _. less-numbers a.x a.c c.if-x-c.true;
    }

pub returns-else-x-c : goal.returns-else-x-c
returns-else-x-c c =
    let a = c.args in
    record { value = ap (λ (z : Bool). z || le a.c a.x) (sym c.if-x-c.false); numbers = at-most-numbers a.x a.c }
