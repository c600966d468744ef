-- `bit_patterns::one_nan_f32` meets its contract, by the law for any format. Assumes nothing.
use lib.Ieee.{binary32}
use Rattle.bit_patterns.proofs.Quiet.{one-nan}
use Rattle.bit_patterns.proofs.one_nan_f32.Goals as goal

pub returns-then-b : goal.returns-then-b
returns-then-b c = one-nan binary32 c.args.b c.if-b.true
