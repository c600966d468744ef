-- `cubic_farrow::weigh` meets its contract, by the law of `Signs`. Assumes nothing.
use lib.Ieee.{binary64, of_bits}
use Rattle.cubic_farrow.proofs.Signs.{unsigned}
use Rattle.cubic_farrow.proofs.weigh.Goals as goal

pub returns : goal.returns
unfolding of_bits
returns c = let a = c.args in unsigned binary64 a.mu a.xm1 a.x0 a.x1 a.x2
