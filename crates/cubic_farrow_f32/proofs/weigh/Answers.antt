-- `cubic_farrow_f32::weigh` meets its contract, by cubic_farrow's law of `Signs`. Assumes nothing.
use lib.Ieee.{binary32, of_bits}
use Rattle.cubic_farrow.proofs.Signs.{unsigned}
use Rattle.cubic_farrow_f32.proofs.weigh.Goals as goal

pub returns : goal.returns
unfolding of_bits
returns c = let a = c.args in unsigned binary32 a.mu a.xm1 a.x0 a.x1 a.x2
