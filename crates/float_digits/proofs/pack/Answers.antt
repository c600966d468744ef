-- `float_digits::pack` meets its contract: the pattern fits a word and is not a NaN's. Assumes nothing.
use native.Mathlib.Omega.{arith}
use mathlib.Core.Path.{◌≡◌}
use Prim.Native.Nat.{◌+◌, ◌*◌, ◌%◌, ◌^◌, ◌≤◌}
use native.Mathlib.Nat.{le_trans, le_of_eq}
use lib.Ieee.{binary64}
use Rattle.rounding.proofs.Patterns.{rest-no-nan}
use Rattle.float_digits.proofs.PackMeaning.{magnitude-le}
use Rattle.float_digits.proofs.pack.Goals as goal

top : (c : goal.After-magnitude) → c.magnitude.result ≤ 0x7ff0_0000_0000_0000
top c = le_trans (le_of_eq c.magnitude.ensures) (magnitude-le c.args.w c.args.k)

pub overflow_add-result : goal.overflow_add-result
overflow_add-result c = omega (arith, top c)

pub float_from_bits-result : goal.float_from_bits-result
float_from_bits-result c =
    rest-no-nan binary64 (c.args.s * 2 ^ 63 % 2 ^ 64 + c.magnitude.result) (omega (arith, top c))

pub returns : goal.returns
returns c =
    let e : c.args.s * 2 ^ 63 % 2 ^ 64 ≡ c.args.s % 2 * 2 ^ 63 = omega arith in
    rw (e, c.magnitude.ensures)
