-- `bit_patterns::float_of_f32` meets its contract, by the laws for any format. Assumes nothing.
use native.Mathlib.Omega.{arith}
use lib.Ieee.{binary32}
use Rattle.bit_patterns.proofs.Quiet.{reads-nan, reads-number}
use Rattle.bit_patterns.proofs.float_of_f32.Goals as goal

pub returns-then-n-gt2139095040 : goal.returns-then-n-gt2139095040
returns-then-n-gt2139095040 c = reads-nan binary32 c.args.n (omega (arith, c.if-n-gt2139095040.true))

pub float_from_bits-result : goal.float_from_bits-result
float_from_bits-result c = reads-number binary32 c.args.n (omega (arith, c.if-n-gt2139095040.false))
