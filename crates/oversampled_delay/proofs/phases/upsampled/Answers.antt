-- `oversampled_delay::phases::upsampled` meets its contract, phase by phase. Assumes nothing.
use lib.Ieee.{of_bits}
use Rattle.oversampled_delay.proofs.Steps.{two-phases, four-phases}
use Rattle.oversampled_delay.proofs.phases.upsampled.Goals as goal

pub returns-then-factor-eq2 : goal.returns-then-factor-eq2
unfolding of_bits
returns-then-factor-eq2 c = two-phases c.if-factor-eq2.true c.outputs-two.ensures

pub returns : goal.returns
returns c = four-phases c.four_outputs.ensures
