-- `oversampled_delay::opening::renewed` meets its contract: 0.0 is the literal's value. Assumes nothing.
use Rattle.std.proofs.Common.{refl}
use lib.Ieee.{of_bits}
use Rattle.oversampled_delay.proofs.opening.renewed.Goals as goal

pub returns : goal.returns
unfolding of_bits
returns c = refl
