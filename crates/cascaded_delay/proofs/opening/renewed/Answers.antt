-- `cascaded_delay::opening::renewed` meets its contract: 0.0 is the literal. Assumes nothing.
use mathlib.Core.Path.{refl}
use lib.Ieee.{of_bits}
use Rattle.cascaded_delay.proofs.opening.renewed.Goals as goal

pub returns : goal.returns
unfolding of_bits
returns c = refl
