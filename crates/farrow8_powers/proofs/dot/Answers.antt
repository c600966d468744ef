-- `farrow8_powers::dot` meets its contract: the sum is written as in the definition. Assumes nothing.
use mathlib.Core.Path.{refl}
use Rattle.farrow8_powers.specs.Sums.{dot_of}
use Rattle.farrow8_powers.proofs.dot.Goals as goal

pub returns : goal.returns
unfolding dot_of
returns c = refl
