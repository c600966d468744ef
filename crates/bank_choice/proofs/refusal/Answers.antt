-- `bank_choice::refusal` meets its contract: each branch returns what the definition gives there. Assumes nothing.
use lib.Ieee.{of_bits}
use Rattle.bank_choice.proofs.refusal.Goals as goal

pub returns-then-is_number : goal.returns-then-is_number
unfolding of_bits
returns-then-is_number c =
    rw (← c.within.ensures, c.if-within.true, ← c.is_number.ensures, c.if-is_number.true)

pub returns-else-is_number : goal.returns-else-is_number
unfolding of_bits
returns-else-is_number c =
    rw (← c.within.ensures, c.if-within.true, ← c.is_number.ensures, c.if-is_number.false)

pub returns-else-within : goal.returns-else-within
unfolding of_bits
returns-else-within c = rw (← c.within.ensures, c.if-within.false)
