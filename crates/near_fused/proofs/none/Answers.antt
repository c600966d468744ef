-- `near_fused::none` meets its contract, by computing. Assumes nothing.
use mathlib.Core.Path.{refl}
use lib.Ieee.{div, of_bits}
use Rattle.near_fused.proofs.none.Goals as goal

pub returns : goal.returns
unfolding div of_bits
returns c = refl
