-- `xorshift::bipolar` meets its contract: a word shifted by 11 has 53 digits, which the cast keeps. Assumes nothing.
use native.Mathlib.Omega.{arith}
use Prim.Native.Nat.{◌/◌, ◌^◌}
use lib.Dec.{le→leb}
use lib.Ieee.{in_float}
use Rattle.xorshift.specs.Draws.{bipolar_of}
use Rattle.xorshift.proofs.bipolar.Goals as goal

pub int_to_float-unit : goal.int_to_float-unit
unfolding in_float
int_to_float-unit c = le→leb (c.wrapping_mul-value.result / 2 ^ 11) (2 ^ 53) (omega arith)

pub returns : goal.returns
unfolding bipolar_of
returns c = rw c.wrapping_mul-value.ensures
