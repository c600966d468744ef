-- `fir_filter::tested::add_to` meets its contract, by its test. Assumes nothing.
use lib.Ieee.{of_bits}
use Rattle.fir_filter.proofs.tested.add_to.Goals as goal

pub returns-then-coefficient : goal.returns-then-coefficient
unfolding of_bits
returns-then-coefficient c = rw c.if-coefficient.true

pub returns-else-coefficient : goal.returns-else-coefficient
unfolding of_bits
returns-else-coefficient c = rw c.if-coefficient.false
