-- `filter_settings::cascade_latency` meets its contract: 64.0 is the literal. Assumes nothing.
use mathlib.Core.Path.{refl}
use lib.Ieee.{of_bits}
use Rattle.filter_settings.proofs.cascade_latency.Goals as goal

pub returns : goal.returns
unfolding of_bits
returns c = refl
