-- `bit_patterns::one_nan` meets its contract, by the law for any format. Assumes nothing.
use lib.Ieee.{binary64}
use Rattle.bit_patterns.proofs.Quiet.{one-nan}
use Rattle.bit_patterns.proofs.one_nan.Goals as goal

pub returns-then-y : goal.returns-then-y
returns-then-y c = one-nan binary64 c.args.y c.if-y.true
