-- `lagrange::lanes::number` meets its contract: the number is small, so its cast is exact. Assumes nothing.
use native.Mathlib.Omega.{arith}
use lib.IntN.{pos}
use Rattle.integer_part.proofs.SumsInRange.{small}
use Rattle.integer_part.proofs.FloorInside.{in-float}
use Rattle.lagrange.proofs.lanes.number.Goals as goal

pub int_to_float-result : goal.int_to_float-result
int_to_float-result c = let n = c.args.n in rw (small n (omega arith)) (in-float (pos n) (omega arith))

pub returns : goal.returns
returns c = rw (small c.args.n (omega arith))
