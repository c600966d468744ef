-- `narrowing::magnitude` meets its contract. `proofs/Patterns.antt` and `proofs/Subnormal.antt` say what each branch
-- computes. Assumes nothing.
use native.Mathlib.Omega.{arith}
use Prim.Native.Nat.{◌/◌, ◌^◌}
use lib.Bits.{mask_lt}
use lib.Ieee.{binary64, nan_bits}
use Rattle.rounding.proofs.Patterns.{rest-no-nan}
use Rattle.narrowing.proofs.Patterns.{over-code, normal-code}
use Rattle.narrowing.proofs.Subnormal.{low-code, sum-no-nan, bits-ge}
use Rattle.narrowing.proofs.magnitude.Goals as goal

pub returns-then-b-ge5183643171103440896 : goal.returns-then-b-ge5183643171103440896
returns-then-b-ge5183643171103440896 c = over-code c.args.b (omega arith) (omega arith)

pub overflow_add-result : goal.overflow_add-result
overflow_add-result c = omega (arith, mask_lt (c.args.b / 2 ^ 29) 1)

pub overflow_add-result-then-b-ge4039728865751334912 : goal.overflow_add-result-then-b-ge4039728865751334912
overflow_add-result-then-b-ge4039728865751334912 c = omega (arith, mask_lt (c.args.b / 2 ^ 29) 1)

pub returns-then-b-ge4039728865751334912 : goal.returns-then-b-ge4039728865751334912
returns-then-b-ge4039728865751334912 c = normal-code c.args.b (omega arith) (omega arith)

pub float_from_bits-result : goal.float_from_bits-result
float_from_bits-result c = rest-no-nan binary64 c.args.b (omega arith)

pub float_from_bits-result-2 : goal.float_from_bits-result-2
unfolding nan_bits
float_from_bits-result-2 c = tt

pub float_to_bits-result : goal.float_to_bits-result
float_to_bits-result c = sum-no-nan c.args.b (omega arith)

pub overflow_sub-result-2 : goal.overflow_sub-result-2
overflow_sub-result-2 c = bits-ge c.args.b (omega arith)

pub returns : goal.returns
returns c = low-code c.args.b (omega arith)
