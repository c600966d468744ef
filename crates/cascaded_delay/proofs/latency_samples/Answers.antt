-- `cascaded_delay::latency_samples` meets its contract: 64.0 is the literal. Assumes nothing.
use mathlib.Core.Path.{refl}
use lib.Ieee.{of_bits}
use Rattle.cascaded_delay.proofs.latency_samples.Goals as goal

pub returns : goal.returns
unfolding of_bits
returns c = refl
