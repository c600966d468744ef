-- `bit_patterns::float_of` meets its contract, by the laws for any format. Assumes nothing.
use native.Mathlib.Omega.{arith}
use lib.Ieee.{binary64}
use Rattle.bit_patterns.proofs.Quiet.{reads-nan, reads-number}
use Rattle.bit_patterns.proofs.float_of.Goals as goal

pub returns-then-n-gt9218868437227405312 : goal.returns-then-n-gt9218868437227405312
returns-then-n-gt9218868437227405312 c = reads-nan binary64 c.args.n (omega (arith, c.if-n-gt9218868437227405312.true))

pub float_from_bits-result : goal.float_from_bits-result
float_from_bits-result c = reads-number binary64 c.args.n (omega (arith, c.if-n-gt9218868437227405312.false))
