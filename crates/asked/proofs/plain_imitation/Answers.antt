-- `asked::plain_imitation` meets its contract, by that of 001's default settings. Assumes nothing.
use lib.Ieee.{of_bits}
use Rattle.asked.proofs.plain_imitation.Goals as goal

pub returns : goal.returns
unfolding of_bits
returns c = rw c.default_params-params.ensures
