-- `high_delay::high_delay` meets its contract, step by step. Assumes nothing.
use Rattle.high_delay.specs.Between.{high_delay}
use Rattle.high_delay.proofs.high_delay.Goals as goal

pub returns : goal.returns
unfolding high_delay
returns c = rw (c.nearest_u64_to_f64-rate.ensures, c.nearest_u64_to_f64.ensures)
