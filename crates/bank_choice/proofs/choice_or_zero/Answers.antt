-- `bank_choice::choice_or_zero` meets its contract, by the test of the bank's rate. Assumes nothing.
use Rattle.std.proofs.Common.{sym, ◌∙◌}
use lib.Ieee.{of_bits}
use Rattle.bank_choice.proofs.choice_or_zero.Goals as goal

pub chosen-requires : goal.chosen-requires
unfolding of_bits
chosen-requires c = sym c.within.ensures ∙ c.if-within.true

pub returns-then-within : goal.returns-then-within
unfolding of_bits
returns-then-within c = rw (c.chosen.ensures, ← c.within.ensures, c.if-within.true)

pub returns-else-within : goal.returns-else-within
unfolding of_bits
returns-else-within c = rw (← c.within.ensures, c.if-within.false)
