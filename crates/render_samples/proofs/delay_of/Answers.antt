-- `render_samples::delay_of` meets its contract: each arm of the match gives the delay of its variant. Assumes nothing.
use lib.Ieee.{of_bits, div}
use Rattle.render_samples.proofs.delay_of.Goals as goal

pub returns-in-Delay : goal.returns-in-Delay
unfolding of_bits
returns-in-Delay c = rw c.in-Delay.is

pub returns-in-Refused : goal.returns-in-Refused
unfolding of_bits div
returns-in-Refused c = rw c.in-Refused.is
