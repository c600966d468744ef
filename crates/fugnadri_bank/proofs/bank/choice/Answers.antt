-- `fugnadri_bank::bank::choice` meets its contract, by its two cases. Assumes nothing.
use mathlib.Core.Path.{sym, ap}
use lib.Ieee.{of_bits}
use Rattle.bank_choice.specs.Choosing.{choice_in}
use Rattle.fugnadri_bank.proofs.bank.choice.Goals as goal

pub returns-in-Refused : goal.returns-in-Refused
unfolding of_bits
returns-in-Refused c = sym (ap choice_in c.in-Refused.is)
