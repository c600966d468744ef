-- `picture::bars::bits` meets its contract: leading zeros and digits make a word. Assumes nothing.
use native.Mathlib.Omega.{arith}
use lib.Count.{leading_le}
use Rattle.float_digits.proofs.Lengths.{zeros-and-size}
use Rattle.picture.proofs.bars.bits.Goals as goal

pub overflow_sub-result : goal.overflow_sub-result
overflow_sub-result c = omega (arith, leading_le 32 c.args.n)

pub returns : goal.returns
returns c = omega (arith, zeros-and-size 32 c.args.n c.ranges.n.fits)
