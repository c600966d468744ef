-- `bank_choice::rates::steps` meets its contract, by the test of the rate. Assumes nothing.
use Rattle.std.proofs.Common.{sym, ◌∙◌}
use lib.Ieee.{of_bits}
use Rattle.bank_choice.proofs.rates.steps.Goals as goal

pub sets-requires : goal.sets-requires
unfolding of_bits
sets-requires c = sym c.within.ensures ∙ c.if-within.true

pub returns-then-within : goal.returns-then-within
unfolding of_bits
returns-then-within c = rw (c.sets.ensures, ← c.within.ensures, c.if-within.true)

pub returns-else-within : goal.returns-else-within
unfolding of_bits
returns-else-within c = rw (← c.within.ensures, c.if-within.false)
