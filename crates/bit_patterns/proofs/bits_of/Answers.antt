-- `bit_patterns::bits_of` meets its contract, by the laws for any format. Assumes nothing.
use mathlib.Core.Path.{sym, ◌∙◌}
use lib.Ieee.{binary64}
use Rattle.bit_patterns.proofs.Quiet.{quiet-f64, writes-nan, writes-number}
use Rattle.bit_patterns.proofs.bits_of.Goals as goal

pub returns-then-x : goal.returns-then-x
returns-then-x c = sym quiet-f64 ∙ writes-nan binary64 c.args.x c.if-x.true

pub float_to_bits-result : goal.float_to_bits-result
float_to_bits-result c = writes-number c.args.x c.if-x.false
