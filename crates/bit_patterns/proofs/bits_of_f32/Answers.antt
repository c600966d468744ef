-- `bit_patterns::bits_of_f32` meets its contract, by the laws for any format. Assumes nothing.
use mathlib.Core.Path.{sym, ◌∙◌}
use lib.Ieee.{binary32}
use Rattle.bit_patterns.proofs.Quiet.{quiet-f32, writes-nan, writes-number}
use Rattle.bit_patterns.proofs.bits_of_f32.Goals as goal

pub returns-then-a : goal.returns-then-a
returns-then-a c = sym quiet-f32 ∙ writes-nan binary32 c.args.a c.if-a.true

pub float_to_bits-result : goal.float_to_bits-result
float_to_bits-result c = writes-number c.args.a c.if-a.false
