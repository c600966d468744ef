-- `elementary::quarters::guess` meets its contract: `QuickGuess` shows which whole number the sum is, and what its
-- pattern is. Assumes nothing.
use lib.Ieee.{of_bits}
use Rattle.elementary.proofs.QuickGuess.{guessed}
use Rattle.elementary.proofs.quarters.guess.Goals as goal

pub float_to_bits-result : goal.float_to_bits-result
unfolding of_bits
float_to_bits-result c = (guessed _ tt c.args.x c.requires).number

pub overflow_sub-result : goal.overflow_sub-result
unfolding of_bits
overflow_sub-result c = (guessed _ tt c.args.x c.requires).enough

pub returns : goal.returns
unfolding of_bits
returns c = (guessed _ tt c.args.x c.requires).guess
