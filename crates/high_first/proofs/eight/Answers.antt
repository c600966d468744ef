-- `high_first::eight` meets its contract, by those of the part and of the loop. Assumes nothing.
use mathlib.Core.Path.{◌∙◌, ap}
use native.Mathlib.Omega.{arith}
use Rattle.high_first.specs.High.{big_value}
use Rattle.high_first.proofs.eight.Goals as goal

pub returns : goal.returns
returns c = c.read.ensures.value ∙ ap big_value c.part.ensures.result_value

pub read-requires : goal.read-requires
read-requires c = omega arith
