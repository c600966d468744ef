-- `desk_delay::set_rates::rate` meets its contract: its steps are those of the definition. Assumes nothing.
use lib.Ieee.{of_bits}
use Rattle.bank_choice.specs.Rates.{rate_of}
use Rattle.desk_delay.proofs.set_rates.rate.Goals as goal

pub returns : goal.returns
unfolding rate_of of_bits
returns c = rw (c.nearest_u64_to_f64.ensures, c.nearest_u64_to_f64-2.ensures)
