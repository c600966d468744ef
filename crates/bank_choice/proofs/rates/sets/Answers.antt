-- `bank_choice::rates::sets` meets its contract: the quotient is at most 50, and its ceiling is the definition's.
-- Assumes nothing.
use lib.Ieee.{of_bits}
use Rattle.bank_choice.specs.Rates.{steps_of}
use Rattle.bank_choice.proofs.SetCounts.{span-at-most}
use Rattle.bank_choice.proofs.rates.sets.Goals as goal

pub ceiling-requires : goal.ceiling-requires
unfolding of_bits
ceiling-requires c = span-at-most c.args.max_rate c.requires

pub returns : goal.returns
unfolding steps_of of_bits
returns c = c.ceiling.ensures
