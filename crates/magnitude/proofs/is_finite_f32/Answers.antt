-- `magnitude::is_finite_f32` meets its contract, by the law for any format. Assumes nothing.
use lib.Ieee.{binary32}
use Rattle.magnitude.proofs.Finite.{less-itself}
use Rattle.magnitude.proofs.is_finite_f32.Goals as goal

pub returns : goal.returns
returns c = less-itself binary32 c.args.x
