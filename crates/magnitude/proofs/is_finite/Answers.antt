-- `magnitude::is_finite` meets its contract, by the law for any format. Assumes nothing.
use lib.Ieee.{binary64}
use Rattle.magnitude.proofs.Finite.{less-itself}
use Rattle.magnitude.proofs.is_finite.Goals as goal

pub returns : goal.returns
returns c = less-itself binary64 c.args.x
