-- `biased_sum::ends_of` meets its contract: each pattern is the f64 of its size. Assumes nothing.
use Rattle.biased_sum.proofs.Frames.{bias-number, near-number, far-number, ends-plus, ends-minus}
use Rattle.biased_sum.proofs.ends_of.Goals as goal

pub float_from_bits-bias : goal.float_from_bits-bias
float_from_bits-bias c = bias-number c.args.h c.requires.1 c.requires.2

pub float_from_bits-near : goal.float_from_bits-near
float_from_bits-near c = near-number c.args.h c.requires.1 c.requires.2

pub float_from_bits-far : goal.float_from_bits-far
float_from_bits-far c = far-number c.args.h c.requires.1 c.requires.2

pub returns-then-h-lt2048 : goal.returns-then-h-lt2048
returns-then-h-lt2048 c = ends-plus c.args.h c.requires.1 c.requires.2 c.if-h-lt2048.true

pub returns : goal.returns
returns c = ends-minus c.args.h c.requires.1 c.requires.2 c.requires.0 c.if-h-lt2048.false
