-- `desk_delay::refused::refused` meets its contract, call by call. Assumes nothing.
use lib.Ieee.{of_bits}
use Rattle.desk_delay.proofs.refused.refused.Goals as goal

pub returns : goal.returns
unfolding of_bits
returns c = rw (c.answered_f32.ensures, c.number.ensures, c.refusal-v.ensures)
