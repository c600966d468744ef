-- `quality_variable_delay::turns::mix` meets its contract, step by step. Assumes nothing.
use lib.Ieee.{of_bits}
use Rattle.quality_variable_delay.proofs.turns.mix.Goals as goal

pub returns : goal.returns
unfolding of_bits
returns c =
    rw (c.min_f32.ensures, c.nearest_u32_to_f32-2.ensures, c.nearest_u32_to_f32.ensures)
