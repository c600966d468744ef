-- `ring::position_ok` meets its contract: its two ends are the floats ±2 ^ 36. Assumes nothing.
use lib.Ieee.{of_bits, neg}
use Rattle.ring.proofs.position_ok.Goals as goal

pub returns : goal.returns
unfolding of_bits neg
returns c = c.within.ensures
